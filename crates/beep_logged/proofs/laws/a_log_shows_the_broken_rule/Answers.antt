use Rattle.beep_logged.proofs.ReadLemmas.{one-fault}
use Rattle.beep_logged.proofs.laws.a_log_shows_the_broken_rule.Goals as goal

pub returns : goal.returns
returns c = λ terms rule place log past b shows. one-fault terms rule place log past b shows
