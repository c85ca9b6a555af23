use Rattle.beep_frame.proofs.SpellingLemmas.{read_as_its_frame}
use Rattle.beep_frame.proofs.laws.a_spelling_is_read_as_its_frame.Goals as goal

pub returns : goal.returns
returns c = read_as_its_frame
