use Rattle.beep_record.proofs.LawLemmas.{one_place}
use Rattle.beep_record.proofs.laws.a_text_stops_at_one_place.Goals as goal

pub returns : goal.returns
returns c = one_place
