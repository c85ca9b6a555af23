use Rattle.beep_standing.proofs.ArriveLemmas.{judged-by}
use Rattle.beep_standing.proofs.laws.a_header_is_judged_by_its_life.Goals as goal

pub returns : goal.returns
returns c = judged-by
