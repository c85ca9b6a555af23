use Rattle.beep_standing.proofs.SendLemmas.{sent-joins}
use Rattle.beep_standing.proofs.laws.a_sent_frame_joins.Goals as goal

pub returns : goal.returns
returns c = λ size most journal given taken old new head payload s above e. sent-joins size most journal given taken old new head payload s e above
