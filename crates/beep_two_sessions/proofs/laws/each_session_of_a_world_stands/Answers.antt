use Rattle.beep_two_sessions.proofs.MoveLemmas.{reached}
use Rattle.beep_two_sessions.proofs.laws.each_session_of_a_world_stands.Goals as goal

pub returns : goal.returns
returns c = record {
  at_a = λ moves world r. (reached moves world r).linked.a_stands;
  at_b = λ moves world r. (reached moves world r).linked.b_stands;
}
