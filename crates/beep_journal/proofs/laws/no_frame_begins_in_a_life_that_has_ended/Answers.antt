use Rattle.beep_journal.proofs.LifeLemmas.{nothing-begins}
use Rattle.beep_journal.proofs.laws.no_frame_begins_in_a_life_that_has_ended.Goals as goal

pub returns : goal.returns
returns c = nothing-begins
