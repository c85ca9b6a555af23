use Rattle.beep_record.proofs.LawLemmas.{no_place}
use Rattle.beep_record.proofs.laws.a_record_stops_nowhere.Goals as goal

pub returns : goal.returns
returns c = no_place
