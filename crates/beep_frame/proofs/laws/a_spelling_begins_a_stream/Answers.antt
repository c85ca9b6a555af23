use Rattle.beep_frame.proofs.SpellingLemmas.{begins_a_stream}
use Rattle.beep_frame.proofs.laws.a_spelling_begins_a_stream.Goals as goal

pub returns : goal.returns
returns c = begins_a_stream
