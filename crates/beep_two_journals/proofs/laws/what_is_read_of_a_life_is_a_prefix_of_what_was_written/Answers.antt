use Rattle.beep_two_journals.proofs.LinkLawLemmas.{read_at_a, read_at_b}
use Rattle.beep_two_journals.proofs.laws.what_is_read_of_a_life_is_a_prefix_of_what_was_written.Goals as goal

pub returns : goal.returns
returns c = record {
  at_a = λ of_a of_b moves a b to_a to_b at_a at_b n k e m l r s t. read_at_a of_a of_b moves a b to_a to_b at_a at_b e m l r s t n k;
  at_b = λ of_a of_b moves a b to_a to_b at_a at_b n k e m l r s t. read_at_b of_a of_b moves a b to_a to_b at_a at_b e m l r s t n k;
}
