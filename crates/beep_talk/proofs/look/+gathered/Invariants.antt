use Rattle.std.proofs.Common.{length}
use Rattle.beep_talk.proofs.look.+gathered.Given as goal

abbrev pub decreases-gathered : goal.decreases-gathered
decreases-gathered l = length l.past.now
