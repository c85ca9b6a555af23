use Rattle.beep_recorder.proofs.LawLemmas.{log-said-once}
use Rattle.beep_recorder.proofs.laws.a_log_is_said_once.Goals as goal

pub returns : goal.returns
returns c = log-said-once
