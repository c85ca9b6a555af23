use Rattle.std.proofs.Common.{length}
use Rattle.beep_talk.proofs.look.+has_waiting.Given as goal

abbrev pub decreases-has_waiting : goal.decreases-has_waiting
decreases-has_waiting l = length l.part.now
