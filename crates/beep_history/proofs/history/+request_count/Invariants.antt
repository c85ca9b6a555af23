use Rattle.std.proofs.Common.{length}
use Rattle.beep_history.proofs.history.+request_count.Given as goal

abbrev pub decreases-request_count : goal.decreases-request_count
decreases-request_count l = length l.past.now
