use Rattle.std.proofs.Common.{length}
use Rattle.beep_script.proofs.clearing.+clear_count.Given as goal

abbrev pub decreases-clear_count : goal.decreases-clear_count
decreases-clear_count l = length l.answers.now
