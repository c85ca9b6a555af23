use Rattle.beep_decide.proofs.AnswerLemmas.{start-chosen}
use Rattle.beep_decide.proofs.laws.a_start_is_granted_what_it_lists.Goals as goal

pub returns : goal.returns
returns c standing number place server listed e = start-chosen standing number place listed e
