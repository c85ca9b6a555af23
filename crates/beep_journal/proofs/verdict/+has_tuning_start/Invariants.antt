use Rattle.std.proofs.Common.{length}
use Rattle.beep_journal.proofs.verdict.+has_tuning_start.Given as goal

abbrev pub decreases-has_tuning_start : goal.decreases-has_tuning_start
decreases-has_tuning_start l = length l.part.now
