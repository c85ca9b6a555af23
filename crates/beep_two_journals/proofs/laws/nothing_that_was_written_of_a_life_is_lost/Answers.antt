use Rattle.std.proofs.Common.{[], refl}
use Rattle.beep_two_journals.proofs.LinkLawLemmas.{written_at_a, written_at_b}
use Rattle.beep_two_journals.proofs.laws.nothing_that_was_written_of_a_life_is_lost.Goals as goal

pub returns : goal.returns
returns c = record {
  at_a = λ of_a of_b moves a b to_b at_a at_b n k e m l r s t going above pos. written_at_a of_a of_b moves a b [] to_b at_a at_b e m l r s t refl going n k above pos;
  at_b = λ of_a of_b moves a b to_a at_a at_b n k e m l r s t going above pos. written_at_b of_a of_b moves a b to_a [] at_a at_b e m l r s t refl going n k above pos;
}
