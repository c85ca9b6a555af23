use Rattle.std.proofs.Common.{length}
use Rattle.beep_words.proofs.reading.+word_in.Given as goal

abbrev pub decreases-word_in : goal.decreases-word_in
decreases-word_in l = length l.words.now
