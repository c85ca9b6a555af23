use Rattle.std.proofs.Common.{length}
use Rattle.beep_script.proofs.standing_now.+put_peer_starting.Given as goal

abbrev pub decreases-put_peer_starting : goal.decreases-put_peer_starting
decreases-put_peer_starting l = length l.replies.now
