use Rattle.beep_two_sessions.proofs.CallLemmas.{gives-step}
use Rattle.beep_two_sessions.proofs.laws.a_message_that_is_given_is_a_step.Goals as goal

pub returns : goal.returns
returns c = gives-step
