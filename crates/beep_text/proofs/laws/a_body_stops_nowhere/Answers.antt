use Rattle.beep_text.proofs.LawLemmas.{no_place}
use Rattle.beep_text.proofs.laws.a_body_stops_nowhere.Goals as goal

pub returns : goal.returns
returns c = no_place
