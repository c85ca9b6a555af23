use Rattle.std.proofs.Common.{arith}
use Rattle.beep_tally.specs.Accounts.{end_at}
use Rattle.beep_tally.proofs.ListLemmas.{edited_next}
use Rattle.beep_tally.proofs.accounts.Accounts.end.Goals as goal

pub loop-account-preserved : goal.loop-account-preserved
loop-account-preserved c =
    edited_next (end_at c.args.at c.args.number) c.loop-account.account-index c.args.self.now c.loop-account.account-items _ c.end_in.result (omega arith) c.end_in.ensures c.loop-account.invariant
