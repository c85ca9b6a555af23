use Rattle.std.proofs.Common.{length}
use Rattle.beep_talk.proofs.words.+put_offered.Given as goal

abbrev pub decreases-put_offered : goal.decreases-put_offered
decreases-put_offered l = length l.offers.now
