-- The element of its text is lawful and says the greeting.
use Rattle.beep_steps.proofs.GreetingLemmas.{bare-read}
use Rattle.beep_steps.proofs.laws.what_a_sender_greets_with_is_read.Goals as goal

pub returns : goal.returns
returns c = bare-read c.the_value_said_is_that_of_the_message.ensures
