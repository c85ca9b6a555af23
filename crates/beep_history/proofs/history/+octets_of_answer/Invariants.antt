use Rattle.std.proofs.Common.{length}
use Rattle.beep_history.proofs.history.+octets_of_answer.Given as goal

abbrev pub decreases-octets_of_answer : goal.decreases-octets_of_answer
decreases-octets_of_answer l = length l.past.now
