use Rattle.std.proofs.Common.{length}
use Rattle.beep_words.proofs.faults.+option_place.Given as goal

abbrev pub decreases-option_place : goal.decreases-option_place
decreases-option_place l = length l.words.now
