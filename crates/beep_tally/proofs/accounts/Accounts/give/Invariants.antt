use Rattle.beep_tally.specs.Accounts.{give_at}
use Rattle.beep_tally.proofs.ListLemmas.{Edited}
use Rattle.beep_tally.proofs.accounts.Accounts.give.Given as goal

abbrev pub invariant-loop-account : goal.invariant-loop-account
invariant-loop-account l = Edited (give_at l.at l.number l.octets) l.account-index l.fn.self l.account-items
