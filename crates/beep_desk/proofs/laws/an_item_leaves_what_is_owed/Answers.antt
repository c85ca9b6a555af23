use Rattle.beep_desk.proofs.OpenLemmas.{open-none}
use Rattle.beep_desk.proofs.laws.an_item_leaves_what_is_owed.Goals as goal

pub returns : goal.returns
returns c = open-none
