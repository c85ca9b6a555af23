use Rattle.beep_schedule.proofs.LawLemmas.{one_schedule}
use Rattle.beep_schedule.proofs.laws.a_text_says_one_schedule.Goals as goal

pub returns : goal.returns
returns c = one_schedule
