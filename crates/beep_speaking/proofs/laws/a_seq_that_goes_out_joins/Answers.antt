use Rattle.beep_standing.proofs.SendLemmas.{sent-seq-joins}
use Rattle.beep_speaking.proofs.laws.a_seq_that_goes_out_joins.Goals as goal

pub returns : goal.returns
returns c = λ size most greeted journal given taken old new before after seq s w.
    (w.1.spelled, sent-seq-joins size journal given taken old new seq s w.1.tells)
