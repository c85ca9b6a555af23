use Rattle.beep_two_sessions.proofs.CallLemmas.{frame-step, seq-step, nothing-step, over-step}
use Rattle.beep_two_sessions.proofs.laws.an_emit_is_a_step.Goals as goal

pub returns : goal.returns
returns c = record {
  frame = frame-step;
  seq = seq-step;
  nothing = nothing-step;
  over = over-step;
}
