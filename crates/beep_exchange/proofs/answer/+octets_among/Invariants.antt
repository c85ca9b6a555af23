use Rattle.std.proofs.Common.{length}
use Rattle.beep_exchange.proofs.answer.+octets_among.Given as goal

abbrev pub decreases-octets_among : goal.decreases-octets_among
decreases-octets_among l = length l.answers.now
