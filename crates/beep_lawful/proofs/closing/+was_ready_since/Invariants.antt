use Rattle.std.proofs.Common.{length}
use Rattle.beep_lawful.proofs.closing.+was_ready_since.Given as goal

abbrev pub decreases-was_ready_since : goal.decreases-was_ready_since
decreases-was_ready_since l = length l.journal.now
