use Rattle.beep_standing.proofs.ArriveLemmas.{seq-judged}
use Rattle.beep_standing.proofs.laws.a_seq_is_judged_by_its_life.Goals as goal

pub returns : goal.returns
returns c = λ size journal given taken channels seq bad s none some. seq-judged size journal given taken channels channels seq s bad none some
