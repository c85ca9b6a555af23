use Rattle.beep_exchange.proofs.GivenLemmas.{may_take}
use Rattle.beep_exchange.proofs.laws.what_the_calls_let_be_taken_may_be_taken.Goals as goal

pub returns : goal.returns
returns c = may_take
