use Rattle.std.proofs.Common.{length}
use Rattle.beep_script.proofs.settled.+are_settled.Given as goal

abbrev pub decreases-are_settled : goal.decreases-are_settled
decreases-are_settled l = length l.numbers.now
