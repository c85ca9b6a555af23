use Rattle.std.proofs.Common.{length}
use Rattle.beep_journal.proofs.zero.+asked.Given as goal

abbrev pub decreases-asked : goal.decreases-asked
decreases-asked l = length l.zero.now
