use Rattle.beep_desk.proofs.AskLemmas.{sender-none, sender-release, sender-sent, sender-start}
use Rattle.beep_desk.proofs.QuietLemmas.{part-asks}
use Rattle.beep_desk.proofs.laws.a_sender_asks_one_request_at_once.Goals as goal

pub returns-clause-sent : goal.returns-clause-sent
returns-clause-sent c = sender-sent

pub returns-clause-start : goal.returns-clause-start
returns-clause-start c = sender-start

pub returns-clause-release : goal.returns-clause-release
returns-clause-release c = sender-release

pub returns-clause-none : goal.returns-clause-none
returns-clause-none c = sender-none

pub returns-clause-part : goal.returns-clause-part
returns-clause-part c = part-asks
