use Rattle.std.proofs.Common.{length}
use Rattle.beep_lawful.proofs.tuning.+has_waiting_tuning.Given as goal

abbrev pub decreases-has_waiting_tuning : goal.decreases-has_waiting_tuning
decreases-has_waiting_tuning l = length l.part.now
