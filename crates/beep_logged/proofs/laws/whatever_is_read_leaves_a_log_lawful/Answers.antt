use Rattle.beep_logged.proofs.EndLemmas.{reads-lawful}
use Rattle.beep_logged.proofs.laws.whatever_is_read_leaves_a_log_lawful.Goals as goal

pub returns : goal.returns
returns c = λ terms rest octets journal log l. reads-lawful terms rest octets journal log l
