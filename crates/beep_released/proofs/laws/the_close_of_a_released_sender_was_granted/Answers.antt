use Rattle.beep_released.proofs.ClosedLemmas.{close-granted}
use Rattle.beep_released.proofs.laws.the_close_of_a_released_sender_was_granted.Goals as goal

pub returns : goal.returns
returns c = close-granted
