use Rattle.std.proofs.Common.{length}
use Rattle.beep_decide.proofs.asks.+has_close_among.Given as goal

abbrev pub decreases-has_close_among : goal.decreases-has_close_among
decreases-has_close_among l = length l.forms.now
