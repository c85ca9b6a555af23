use Rattle.beep_desk.proofs.StepLemmas.{part-step}
use Rattle.beep_desk.proofs.laws.a_part_of_a_message_leaves_the_desk.Goals as goal

pub returns : goal.returns
returns c = part-step
