use Rattle.beep_two_journals.proofs.NeverBreakLemmas.{next_to_a, next_to_b}
use Rattle.beep_two_journals.proofs.laws.the_next_item_of_a_session_breaks_no_rule.Goals as goal

pub returns : goal.returns
returns c = record { to_a = next_to_a; to_b = next_to_b }
