use Rattle.std.proofs.Common.{length}
use Rattle.beep_history.proofs.history.+last_frame.Given as goal

abbrev pub decreases-last_frame : goal.decreases-last_frame
decreases-last_frame l = length l.past.now
