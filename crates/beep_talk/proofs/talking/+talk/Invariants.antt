use Rattle.std.proofs.Common.{length}
use Rattle.beep_talk.proofs.talking.+talk.Given as goal

abbrev pub decreases-talk : goal.decreases-talk
decreases-talk l = length l.journal.now
