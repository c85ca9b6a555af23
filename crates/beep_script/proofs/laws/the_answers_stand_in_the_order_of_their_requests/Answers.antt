use Rattle.beep_script.proofs.OrderLemmas.{answers-rise}
use Rattle.beep_script.proofs.laws.the_answers_stand_in_the_order_of_their_requests.Goals as goal

pub returns : goal.returns
returns c = answers-rise
