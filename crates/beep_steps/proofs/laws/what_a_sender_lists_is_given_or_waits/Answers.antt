-- What was given in its one life of channel 1 goes on with what waits.
use Rattle.beep_steps.proofs.SendRests.{sends-listed}
use Rattle.beep_steps.proofs.laws.what_a_sender_lists_is_given_or_waits.Goals as goal

pub returns : goal.returns
returns c plan p session log offers x d taken = record { on = d.on; listed = sends-listed plan p session log x d taken offers }
