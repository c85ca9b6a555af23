use Rattle.beep_management.proofs.ItemLemmas.{given-above}
use Rattle.beep_management.proofs.laws.what_is_given_above_leaves_it.Goals as goal

pub returns : goal.returns
returns c = given-above
