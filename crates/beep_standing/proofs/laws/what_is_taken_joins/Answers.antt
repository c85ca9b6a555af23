use Rattle.beep_standing.proofs.SendLemmas.{taken-joins}
use Rattle.beep_standing.proofs.laws.what_is_taken_joins.Goals as goal

pub returns : goal.returns
returns c = λ size number lives journal given taken old new part before after s e. taken-joins size number lives journal given taken old new s part before after e
