use Rattle.beep_history.proofs.OrderLemmas.{replies-rise}
use Rattle.beep_history.proofs.laws.replies_stand_in_the_order_of_their_requests.Goals as goal

pub returns : goal.returns
returns c = replies-rise
