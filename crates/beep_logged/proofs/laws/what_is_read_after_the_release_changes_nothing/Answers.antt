use Rattle.beep_logged.proofs.EndLemmas.{released-gots}
use Rattle.beep_logged.proofs.laws.what_is_read_after_the_release_changes_nothing.Goals as goal

pub returns : goal.returns
returns c = λ terms rest octets journal log l released. released-gots terms rest octets journal log released l
