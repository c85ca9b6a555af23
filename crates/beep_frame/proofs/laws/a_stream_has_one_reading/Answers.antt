use Rattle.beep_frame.proofs.LawLemmas.{is_one_reading}
use Rattle.beep_frame.proofs.laws.a_stream_has_one_reading.Goals as goal

pub returns : goal.returns
returns c = is_one_reading
