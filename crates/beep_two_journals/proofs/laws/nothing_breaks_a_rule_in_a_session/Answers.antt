use Rattle.beep_two_journals.proofs.NeverBreakLemmas.{never_break_a, never_break_b}
use Rattle.beep_two_journals.proofs.laws.nothing_breaks_a_rule_in_a_session.Goals as goal

pub returns : goal.returns
returns c = record { at_a = never_break_a; at_b = never_break_b }
