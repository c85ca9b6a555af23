use Rattle.beep_two_ends.proofs.RunLemmas.{reached, at_opening}
use Rattle.beep_two_ends.proofs.laws.nothing_breaks_a_rule_on_channel_zero.Goals as goal

pub returns : goal.returns
returns c = reached _ at_opening
