use Rattle.std.proofs.Common.{length}
use Rattle.beep_words.proofs.faults.+option_fault.Given as goal

abbrev pub decreases-option_fault : goal.decreases-option_fault
decreases-option_fault l = length l.words.now
