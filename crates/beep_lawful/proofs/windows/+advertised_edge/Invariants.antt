use Rattle.std.proofs.Common.{length}
use Rattle.beep_lawful.proofs.windows.+advertised_edge.Given as goal

abbrev pub decreases-advertised_edge : goal.decreases-advertised_edge
decreases-advertised_edge l = length l.past.now
