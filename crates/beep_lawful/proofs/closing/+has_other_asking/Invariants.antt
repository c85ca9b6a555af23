use Rattle.std.proofs.Common.{length}
use Rattle.beep_lawful.proofs.closing.+has_other_asking.Given as goal

abbrev pub decreases-has_other_asking : goal.decreases-has_other_asking
decreases-has_other_asking l = length l.part.now
