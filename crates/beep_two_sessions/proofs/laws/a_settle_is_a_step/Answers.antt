use Rattle.beep_two_sessions.proofs.CallLemmas.{settles-step, stops-step, waits-step}
use Rattle.beep_two_sessions.proofs.laws.a_settle_is_a_step.Goals as goal

pub returns : goal.returns
returns c = record {
  done = settles-step;
  broken = stops-step;
  memory = waits-step;
}
