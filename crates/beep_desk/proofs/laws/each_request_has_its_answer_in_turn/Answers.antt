use Rattle.beep_desk.proofs.TurnLemmas.{in-turn}
use Rattle.beep_desk.proofs.laws.each_request_has_its_answer_in_turn.Goals as goal

pub returns : goal.returns
returns c = in-turn
