use Rattle.std.proofs.Common.{length}
use Rattle.beep_journal.proofs.verdict.+is_tuning.Given as goal

abbrev pub decreases-is_tuning : goal.decreases-is_tuning
decreases-is_tuning l = length l.tuning.now
