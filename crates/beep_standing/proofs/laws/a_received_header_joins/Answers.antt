use Rattle.beep_standing.proofs.ArriveLemmas.{header-joins}
use Rattle.beep_standing.proofs.laws.a_received_header_joins.Goals as goal

pub returns : goal.returns
returns c = λ size journal given taken old new head s none e. header-joins size journal given taken old new head s none e
