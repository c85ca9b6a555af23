use Rattle.std.proofs.Common.{length}
use Rattle.beep_decide.proofs.asks.+has_waiting_close.Given as goal

abbrev pub decreases-has_waiting_close : goal.decreases-has_waiting_close
decreases-has_waiting_close l = length l.forms.now
