use Rattle.beep_tally.specs.Accounts.{end_at}
use Rattle.beep_tally.proofs.ListLemmas.{Edited}
use Rattle.beep_tally.proofs.accounts.Accounts.end.Given as goal

abbrev pub invariant-loop-account : goal.invariant-loop-account
invariant-loop-account l = Edited (end_at l.at l.number) l.account-index l.fn.self l.account-items
