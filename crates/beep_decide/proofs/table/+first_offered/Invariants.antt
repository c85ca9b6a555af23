use Rattle.std.proofs.Common.{length}
use Rattle.beep_decide.proofs.table.+first_offered.Given as goal

abbrev pub decreases-first_offered : goal.decreases-first_offered
decreases-first_offered l = length l.listed.now
