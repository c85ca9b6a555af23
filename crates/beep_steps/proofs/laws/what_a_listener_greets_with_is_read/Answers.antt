-- The element of its text is lawful and says the greeting.
use Rattle.beep_steps.proofs.GreetingLemmas.{greeting-read}
use Rattle.beep_steps.proofs.laws.what_a_listener_greets_with_is_read.Goals as goal

pub returns : goal.returns
returns c uri is = greeting-read c.the_value_said_is_that_of_the_message.ensures uri is
