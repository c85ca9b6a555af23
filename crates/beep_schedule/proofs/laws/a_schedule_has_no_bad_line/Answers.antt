use Rattle.beep_schedule.proofs.LawLemmas.{no_bad_line}
use Rattle.beep_schedule.proofs.laws.a_schedule_has_no_bad_line.Goals as goal

pub returns : goal.returns
returns c = no_bad_line
