use Rattle.beep_tally.specs.Accounts.{take_at}
use Rattle.beep_tally.proofs.ListLemmas.{Edited}
use Rattle.beep_tally.proofs.accounts.Accounts.take.Given as goal

abbrev pub invariant-loop-account : goal.invariant-loop-account
invariant-loop-account l = Edited (take_at l.at l.number l.octets l.ended) l.account-index l.fn.self l.account-items
