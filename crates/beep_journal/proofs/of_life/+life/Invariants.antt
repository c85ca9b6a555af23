use Rattle.std.proofs.Common.{length}
use Rattle.beep_journal.proofs.of_life.+life.Given as goal

abbrev pub decreases-life : goal.decreases-life
decreases-life l = length l.journal.now
