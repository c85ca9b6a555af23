use Rattle.beep_two_sessions.proofs.GreetLemmas.{greeted-a, greeted-b}
use Rattle.beep_two_sessions.proofs.laws.a_short_greeting_has_gone.Goals as goal

pub returns : goal.returns
returns c = record {
  at_a = λ moves world r g e due to_a to_b. greeted-a moves world r to_a to_b g e due;
  at_b = λ moves world r g e due to_a to_b. greeted-b moves world r to_a to_b g e due;
}
