use Rattle.beep_two_journals.proofs.LifeLawLemmas.{none_lost_at_a, none_lost_at_b}
use Rattle.beep_two_journals.proofs.laws.nothing_that_was_sent_of_a_life_is_lost.Goals as goal

pub returns : goal.returns
returns c = record {
  at_a = λ of_a of_b steps a b to_b n k e r above pos. none_lost_at_a of_a of_b steps a b to_b e n k above pos r;
  at_b = λ of_a of_b steps a b to_a n k e r above pos. none_lost_at_b of_a of_b steps a b to_a e n k above pos r;
}
