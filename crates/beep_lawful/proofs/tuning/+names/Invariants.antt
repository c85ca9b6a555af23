use Rattle.std.proofs.Common.{length}
use Rattle.beep_lawful.proofs.tuning.+names.Given as goal

abbrev pub decreases-names : goal.decreases-names
decreases-names l = length l.tuning.now
