use Rattle.beep_two_sessions.proofs.PrefixLemmas.{order-at-a, order-at-b}
use Rattle.beep_two_sessions.proofs.laws.replies_are_taken_in_the_order_of_their_requests.Goals as goal

pub returns : goal.returns
returns c = record {
  by_b = λ moves world n k r above pos. order-at-b moves world r n k above pos;
  by_a = λ moves world n k r above pos. order-at-a moves world r n k above pos;
}
