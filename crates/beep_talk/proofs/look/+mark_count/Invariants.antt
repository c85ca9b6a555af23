use Rattle.std.proofs.Common.{length}
use Rattle.beep_talk.proofs.look.+mark_count.Given as goal

abbrev pub decreases-mark_count : goal.decreases-mark_count
decreases-mark_count l = length l.past.now
