use Rattle.beep_frame.proofs.LawLemmas.{none_begins_another}
use Rattle.beep_frame.proofs.laws.no_spelling_begins_another.Goals as goal

pub returns : goal.returns
returns c = none_begins_another
