use Rattle.beep_two_sessions.proofs.CallLemmas.{begins}
use Rattle.beep_two_sessions.proofs.laws.two_new_sessions_begin_a_world.Goals as goal

pub returns : goal.returns
returns c = begins
