use Rattle.beep_standing.proofs.SendLemmas.{sent-seq-joins}
use Rattle.beep_standing.proofs.laws.a_sent_seq_joins.Goals as goal

pub returns : goal.returns
returns c = λ size journal given taken old new seq s e. sent-seq-joins size journal given taken old new seq s e
