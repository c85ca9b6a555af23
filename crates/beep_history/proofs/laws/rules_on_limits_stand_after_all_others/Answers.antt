use Rattle.beep_history.proofs.RulesLemmas.{shape-kept}
use Rattle.beep_history.proofs.laws.rules_on_limits_stand_after_all_others.Goals as goal

pub returns : goal.returns
returns c = shape-kept
