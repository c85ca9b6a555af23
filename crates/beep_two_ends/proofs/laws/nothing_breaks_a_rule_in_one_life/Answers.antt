use Rattle.beep_two_ends.proofs.RunLemmas.{reached, at_first}
use Rattle.beep_two_ends.proofs.laws.nothing_breaks_a_rule_in_one_life.Goals as goal

pub returns : goal.returns
returns c = reached _ at_first
