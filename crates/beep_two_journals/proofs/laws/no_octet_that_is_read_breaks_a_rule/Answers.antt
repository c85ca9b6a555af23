use Rattle.beep_two_journals.proofs.LinkLawLemmas.{fine_at_a, fine_at_b}
use Rattle.beep_two_journals.proofs.laws.no_octet_that_is_read_breaks_a_rule.Goals as goal

pub returns : goal.returns
returns c = record {
  at_a = fine_at_a;
  at_b = fine_at_b;
}
