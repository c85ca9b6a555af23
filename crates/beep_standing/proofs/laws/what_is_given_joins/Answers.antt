use Rattle.beep_standing.proofs.SendLemmas.{given-joins}
use Rattle.beep_standing.proofs.laws.what_is_given_joins.Goals as goal

pub returns : goal.returns
returns c = λ size number lives journal given taken old new marks s e. given-joins size number lives journal given taken old new s marks e
