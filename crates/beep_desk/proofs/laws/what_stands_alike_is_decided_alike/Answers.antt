use Rattle.beep_desk.proofs.AlikeLemmas.{decide-alike, answer-alike}
use Rattle.beep_desk.proofs.laws.what_stands_alike_is_decided_alike.Goals as goal

pub returns-clause-decided : goal.returns-clause-decided
returns-clause-decided c one other said s = decide-alike one other s said

pub returns-clause-answered : goal.returns-clause-answered
returns-clause-answered c one other decision s = answer-alike one other s decision
