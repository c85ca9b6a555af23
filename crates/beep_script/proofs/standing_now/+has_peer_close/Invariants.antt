use Rattle.std.proofs.Common.{length}
use Rattle.beep_script.proofs.standing_now.+has_peer_close.Given as goal

abbrev pub decreases-has_peer_close : goal.decreases-has_peer_close
decreases-has_peer_close l = length l.forms.now
