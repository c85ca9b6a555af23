use Rattle.beep_two_sessions.proofs.CallLemmas.{rests-step}
use Rattle.beep_two_sessions.proofs.laws.a_refused_call_is_a_step.Goals as goal

pub returns : goal.returns
returns c = rests-step
