use Rattle.std.proofs.Common.{length}
use Rattle.beep_history.proofs.history.+has_unfinished.Given as goal

abbrev pub decreases-has_unfinished : goal.decreases-has_unfinished
decreases-has_unfinished l = length l.past.now
