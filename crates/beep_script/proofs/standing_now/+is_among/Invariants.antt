use Rattle.std.proofs.Common.{length}
use Rattle.beep_script.proofs.standing_now.+is_among.Given as goal

abbrev pub decreases-is_among : goal.decreases-is_among
decreases-is_among l = length l.numbers.now
