use Rattle.std.proofs.Common.{length}
use Rattle.beep_history.proofs.history.+unfinished_count.Given as goal

abbrev pub decreases-unfinished_count : goal.decreases-unfinished_count
decreases-unfinished_count l = length l.past.now
