use Rattle.std.proofs.Common.{length}
use Rattle.beep_history.proofs.history.+has_passed_whole.Given as goal

abbrev pub decreases-has_passed_whole : goal.decreases-has_passed_whole
decreases-has_passed_whole l = length l.past.now
