use Rattle.beep_standing.proofs.SendLemmas.{sent-zero-joins}
use Rattle.beep_standing.proofs.laws.a_sent_frame_of_channel_zero_joins.Goals as goal

pub returns : goal.returns
returns c = λ size most journal given taken old new head payload s zero e. sent-zero-joins size most journal given taken old new head payload s e zero
