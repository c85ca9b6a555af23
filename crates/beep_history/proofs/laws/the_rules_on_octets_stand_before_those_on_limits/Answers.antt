use Rattle.beep_history.proofs.RulesLemmas.{octets-between}
use Rattle.beep_history.proofs.laws.the_rules_on_octets_stand_before_those_on_limits.Goals as goal

pub returns : goal.returns
returns c = octets-between
