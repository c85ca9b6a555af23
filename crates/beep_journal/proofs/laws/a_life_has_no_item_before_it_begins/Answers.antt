use Rattle.beep_journal.proofs.LifeLemmas.{nothing-before}
use Rattle.beep_journal.proofs.laws.a_life_has_no_item_before_it_begins.Goals as goal

pub returns : goal.returns
returns c = nothing-before
