use Rattle.beep_standing.proofs.ArriveLemmas.{zero-joins}
use Rattle.beep_standing.proofs.laws.a_received_frame_of_channel_zero_joins.Goals as goal

pub returns : goal.returns
returns c = λ size journal given taken old new head payload goes_on s begun zero e has. zero-joins size journal given taken old new head payload s begun zero goes_on e has
