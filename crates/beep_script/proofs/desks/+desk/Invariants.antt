use Rattle.std.proofs.Common.{length}
use Rattle.beep_script.proofs.desks.+desk.Given as goal

abbrev pub decreases-desk : goal.decreases-desk
decreases-desk l = length l.journal.now
