use Rattle.std.proofs.Common.{length}
use Rattle.beep_lawful.proofs.closing.+has_waiting_before.Given as goal

abbrev pub decreases-has_waiting_before : goal.decreases-has_waiting_before
decreases-has_waiting_before l = length l.part.now
