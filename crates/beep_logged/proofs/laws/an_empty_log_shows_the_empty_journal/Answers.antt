use Rattle.beep_logged.proofs.ReadLemmas.{first-logged}
use Rattle.beep_logged.proofs.laws.an_empty_log_shows_the_empty_journal.Goals as goal

pub returns : goal.returns
returns c = λ terms. first-logged terms
