use Rattle.std.proofs.Common.{length}
use Rattle.beep_talk.proofs.look.+life_under_way.Given as goal

abbrev pub decreases-life_under_way : goal.decreases-life_under_way
decreases-life_under_way l = length l.journal.now
