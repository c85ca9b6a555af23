use Rattle.std.proofs.Common.{length}
use Rattle.beep_talk.proofs.talking.+has_peer_release.Given as goal

abbrev pub decreases-has_peer_release : goal.decreases-has_peer_release
decreases-has_peer_release l = length l.events.now
