use Rattle.std.proofs.Common.{[], refl}
use Rattle.beep_two_journals.proofs.LifeLawLemmas.{count_at_a, count_at_b}
use Rattle.beep_two_journals.proofs.laws.both_ends_count_lives_alike.Goals as goal

pub returns : goal.returns
returns c = record {
  from_a = λ of_a of_b steps a b to_a n e r l. count_at_b of_a of_b steps a b to_a [] e r refl n l;
  from_b = λ of_a of_b steps a b to_b n e r l. count_at_a of_a of_b steps a b [] to_b e r refl n l;
}
