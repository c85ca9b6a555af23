use Rattle.beep_two_sessions.proofs.CallLemmas.{takes-step}
use Rattle.beep_two_sessions.proofs.laws.a_take_is_a_step.Goals as goal

pub returns : goal.returns
returns c = takes-step
