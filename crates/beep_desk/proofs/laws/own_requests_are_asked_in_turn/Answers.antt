use Rattle.beep_desk.proofs.AskLemmas.{asked-given}
use Rattle.beep_desk.proofs.QuietLemmas.{asks-nothing}
use Rattle.beep_desk.proofs.StepLemmas.{asks-placed, listener-asks}
use Rattle.beep_desk.proofs.laws.own_requests_are_asked_in_turn.Goals as goal

pub returns-clause-placed : goal.returns-clause-placed
returns-clause-placed c = asks-placed

pub returns-clause-none : goal.returns-clause-none
returns-clause-none c = listener-asks

pub returns-clause-nothing : goal.returns-clause-nothing
returns-clause-nothing c = asks-nothing

pub returns-clause-count : goal.returns-clause-count
returns-clause-count c = asked-given
