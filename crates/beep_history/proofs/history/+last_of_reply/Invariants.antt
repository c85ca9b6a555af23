use Rattle.std.proofs.Common.{length}
use Rattle.beep_history.proofs.history.+last_of_reply.Given as goal

abbrev pub decreases-last_of_reply : goal.decreases-last_of_reply
decreases-last_of_reply l = length l.past.now
