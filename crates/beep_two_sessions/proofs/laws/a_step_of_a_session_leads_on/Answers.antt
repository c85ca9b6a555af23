use Rattle.beep_two_sessions.proofs.CallLemmas.{leads-a, leads-b}
use Rattle.beep_two_sessions.proofs.laws.a_step_of_a_session_leads_on.Goals as goal

pub returns : goal.returns
returns c = record {
  by_a = leads-a;
  by_b = leads-b;
}
