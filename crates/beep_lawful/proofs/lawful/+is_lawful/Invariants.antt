use Rattle.std.proofs.Common.{length}
use Rattle.beep_lawful.proofs.lawful.+is_lawful.Given as goal

abbrev pub decreases-is_lawful : goal.decreases-is_lawful
decreases-is_lawful l = length l.journal.now
