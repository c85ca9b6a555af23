use Rattle.std.proofs.Common.{length}
use Rattle.beep_journal.proofs.zero.+zero_history.Given as goal

abbrev pub decreases-zero_history : goal.decreases-zero_history
decreases-zero_history l = length l.journal.now
