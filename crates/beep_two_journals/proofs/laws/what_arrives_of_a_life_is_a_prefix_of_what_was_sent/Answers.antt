use Rattle.beep_two_journals.proofs.LifeLawLemmas.{prefix_at_a, prefix_at_b}
use Rattle.beep_two_journals.proofs.laws.what_arrives_of_a_life_is_a_prefix_of_what_was_sent.Goals as goal

pub returns : goal.returns
returns c = record {
  at_a = λ of_a of_b steps a b to_a to_b n k e r. prefix_at_a of_a of_b steps a b to_a to_b e r n k;
  at_b = λ of_a of_b steps a b to_a to_b n k e r. prefix_at_b of_a of_b steps a b to_a to_b e r n k;
}
