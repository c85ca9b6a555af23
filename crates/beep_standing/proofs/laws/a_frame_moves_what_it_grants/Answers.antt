use Rattle.beep_standing.proofs.MovesLemmas.{frame-moves}
use Rattle.beep_standing.proofs.laws.a_frame_moves_what_it_grants.Goals as goal

pub returns : goal.returns
returns c = frame-moves
