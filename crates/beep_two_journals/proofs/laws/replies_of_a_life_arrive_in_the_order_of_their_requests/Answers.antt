use Rattle.beep_two_journals.proofs.LifeLawLemmas.{order_at_a, order_at_b}
use Rattle.beep_two_journals.proofs.laws.replies_of_a_life_arrive_in_the_order_of_their_requests.Goals as goal

pub returns : goal.returns
returns c = record {
  at_a = λ of_a of_b steps a b to_a to_b n k e r. order_at_a of_a of_b steps a b to_a to_b e r n k;
  at_b = λ of_a of_b steps a b to_a to_b n k e r. order_at_b of_a of_b steps a b to_a to_b e r n k;
}
