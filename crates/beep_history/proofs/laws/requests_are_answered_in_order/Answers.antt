use Rattle.beep_history.proofs.OrderLemmas.{answered-in-order}
use Rattle.beep_history.proofs.laws.requests_are_answered_in_order.Goals as goal

pub returns : goal.returns
returns c = answered-in-order
