use Rattle.std.proofs.Common.{length}
use Rattle.beep_history.proofs.history.+is_recent.Given as goal

abbrev pub decreases-is_recent : goal.decreases-is_recent
decreases-is_recent l = length l.past.now
