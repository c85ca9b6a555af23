use Rattle.std.proofs.Common.{length}
use Rattle.beep_decide.proofs.asks.+has_waiting_start.Given as goal

abbrev pub decreases-has_waiting_start : goal.decreases-has_waiting_start
decreases-has_waiting_start l = length l.forms.now
