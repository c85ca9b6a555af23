use Rattle.beep_desk.proofs.OnceLemmas.{none-asked-yet, two-asked-yet}
use Rattle.beep_desk.proofs.laws.a_sender_asks_each_request_once.Goals as goal

pub returns-clause-none : goal.returns-clause-none
returns-clause-none c = none-asked-yet

pub returns-clause-two : goal.returns-clause-two
returns-clause-two c = two-asked-yet
