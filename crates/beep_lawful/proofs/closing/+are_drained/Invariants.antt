use Rattle.std.proofs.Common.{length}
use Rattle.beep_lawful.proofs.closing.+are_drained.Given as goal

abbrev pub decreases-are_drained : goal.decreases-are_drained
decreases-are_drained l = length l.moments.now
