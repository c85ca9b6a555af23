use Rattle.beep_exchange.proofs.GivenLemmas.{counts-none, counts-opening}
use Rattle.beep_exchange.proofs.given.Given.new.Goals as goal

pub returns-then-zero-clause-calls : goal.returns-then-zero-clause-calls
returns-then-zero-clause-calls c = rw c.if-zero.true counts-opening

pub returns-else-zero-clause-calls : goal.returns-else-zero-clause-calls
returns-else-zero-clause-calls c = rw c.if-zero.false counts-none
