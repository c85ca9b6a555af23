use Rattle.std.proofs.Common.{length}
use Rattle.beep_lawful.proofs.tuning.+has_tuned.Given as goal

abbrev pub decreases-has_tuned : goal.decreases-has_tuned
decreases-has_tuned l = length l.zero.now
