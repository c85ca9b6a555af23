use Rattle.std.proofs.Common.{length}
use Rattle.beep_talk.proofs.look.+message_count.Given as goal

abbrev pub decreases-message_count : goal.decreases-message_count
decreases-message_count l = length l.past.now
