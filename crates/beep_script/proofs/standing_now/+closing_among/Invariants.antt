use Rattle.std.proofs.Common.{length}
use Rattle.beep_script.proofs.standing_now.+closing_among.Given as goal

abbrev pub decreases-closing_among : goal.decreases-closing_among
decreases-closing_among l = length l.numbers.now
