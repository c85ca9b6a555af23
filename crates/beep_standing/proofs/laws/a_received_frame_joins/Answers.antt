use Rattle.beep_standing.proofs.ArriveLemmas.{frame-joins}
use Rattle.beep_standing.proofs.laws.a_received_frame_joins.Goals as goal

pub returns : goal.returns
returns c = λ size journal given taken old new head payload goes_on s begun above e has. frame-joins size journal given taken old new head payload s begun above goes_on e has
