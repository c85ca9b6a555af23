use Rattle.beep_two_sessions.proofs.CallLemmas.{feeds-step, breaks-step, busy-step}
use Rattle.beep_two_sessions.proofs.laws.a_feed_is_a_step.Goals as goal

pub returns : goal.returns
returns c = record {
  fine = λ event octets old session e b r g same. feeds-step octets old session e same event b r g;
  broken = λ rule place octets old session e s same. breaks-step octets old session e same rule place s;
  busy = busy-step;
}
