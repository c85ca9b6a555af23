use Rattle.beep_two_journals.proofs.LifeLawLemmas.{lawful_at_a, lawful_at_b, whole_at_a, whole_at_b}
use Rattle.beep_two_journals.proofs.laws.each_life_of_a_session_is_lawful.Goals as goal

pub returns : goal.returns
returns c = record {
  lawful_at_a = λ of_a of_b steps a b to_a to_b n k e r. lawful_at_a of_a of_b steps a b to_a to_b e r n k;
  lawful_at_b = λ of_a of_b steps a b to_a to_b n k e r. lawful_at_b of_a of_b steps a b to_a to_b e r n k;
  unbroken_at_a = λ of_a of_b steps a b to_a to_b n k e r. whole_at_a of_a of_b steps a b to_a to_b e r n k;
  unbroken_at_b = λ of_a of_b steps a b to_a to_b n k e r. whole_at_b of_a of_b steps a b to_a to_b e r n k;
}
