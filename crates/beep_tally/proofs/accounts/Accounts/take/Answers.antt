use Rattle.std.proofs.Common.{arith}
use Rattle.beep_tally.specs.Accounts.{take_at}
use Rattle.beep_tally.proofs.ListLemmas.{edited_next}
use Rattle.beep_tally.proofs.accounts.Accounts.take.Goals as goal

pub loop-account-preserved : goal.loop-account-preserved
loop-account-preserved c =
    edited_next (take_at c.args.at c.args.number c.args.octets c.args.ended) c.loop-account.account-index c.args.self.now c.loop-account.account-items _ c.take_in.result (omega arith) c.take_in.ensures c.loop-account.invariant
