use Rattle.beep_standing.proofs.ZeroLemmas.{part-none}
use Rattle.beep_standing.proofs.laws.a_part_of_a_message_moves_nothing.Goals as goal

pub returns : goal.returns
returns c = part-none
