use Rattle.std.proofs.Common.{length}
use Rattle.beep_lawful.proofs.closing.+was_quiet_since.Given as goal

abbrev pub decreases-was_quiet_since : goal.decreases-was_quiet_since
decreases-was_quiet_since l = length l.journal.now
