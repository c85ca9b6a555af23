use Rattle.beep_two_sessions.proofs.CallLemmas.{asks-step}
use Rattle.beep_two_sessions.proofs.laws.a_request_of_channel_zero_is_a_step.Goals as goal

pub returns : goal.returns
returns c = asks-step
