use Rattle.beep_standing.proofs.SendLemmas.{sent-joins, sent-zero-joins}
use Rattle.beep_speaking.proofs.laws.a_frame_that_goes_out_joins.Goals as goal

pub returns : goal.returns
returns c = record {
  above = λ size most greeted journal given taken old new before after head s above w.
      (w.1.payload, w.1.spelled, sent-joins size most journal given taken old new head w.1.payload s w.1.sends above);
  zero = λ size most greeted journal given taken old new before after head s zero w.
      (w.1.payload, w.1.spelled, sent-zero-joins size most journal given taken old new head w.1.payload s w.1.sends zero);
}
