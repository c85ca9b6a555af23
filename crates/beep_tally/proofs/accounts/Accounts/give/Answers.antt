use Rattle.std.proofs.Common.{arith}
use Rattle.beep_tally.specs.Accounts.{give_at}
use Rattle.beep_tally.proofs.ListLemmas.{edited_next}
use Rattle.beep_tally.proofs.accounts.Accounts.give.Goals as goal

pub loop-account-preserved : goal.loop-account-preserved
loop-account-preserved c =
    edited_next (give_at c.args.at c.args.number c.args.octets) c.loop-account.account-index c.args.self.now c.loop-account.account-items _ c.give_in.result (omega arith) c.give_in.ensures c.loop-account.invariant
