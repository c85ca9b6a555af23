use Rattle.std.proofs.Common.{length}
use Rattle.beep_script.proofs.clearing.+are_free_among.Given as goal

abbrev pub decreases-are_free_among : goal.decreases-are_free_among
decreases-are_free_among l = length l.numbers.now
