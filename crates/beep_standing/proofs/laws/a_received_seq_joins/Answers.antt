use Rattle.std.proofs.Common.{refl}
use Rattle.beep_standing.proofs.ArriveLemmas.{seq-joins}
use Rattle.beep_standing.proofs.laws.a_received_seq_joins.Goals as goal

pub returns : goal.returns
returns c = λ size journal given taken old new seq s e. seq-joins size journal given taken old new seq s _ refl e
