use Rattle.std.proofs.Common.{length}
use Rattle.beep_lawful.proofs.closing.+was_idle_since.Given as goal

abbrev pub decreases-was_idle_since : goal.decreases-was_idle_since
decreases-was_idle_since l = length l.journal.now
