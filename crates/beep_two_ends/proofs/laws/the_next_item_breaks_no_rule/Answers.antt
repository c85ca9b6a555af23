use Rattle.beep_two_ends.proofs.WorldLemmas.{next_breaks_nothing}
use Rattle.beep_two_ends.proofs.laws.the_next_item_breaks_no_rule.Goals as goal

pub returns : goal.returns
returns c = next_breaks_nothing
