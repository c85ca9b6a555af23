-- The element of each text is lawful and says what is asked.
use Rattle.beep_steps.proofs.TextsLemmas.{sender-texts}
use Rattle.beep_steps.proofs.laws.what_a_sender_asks_is_read.Goals as goal

pub returns : goal.returns
returns c uri is = sender-texts c.the_value_said_is_that_of_the_message.ensures uri is
