use Rattle.std.proofs.Common.{length}
use Rattle.beep_history.proofs.windows.+edge.Given as goal

abbrev pub decreases-edge : goal.decreases-edge
decreases-edge l = length l.past.now
