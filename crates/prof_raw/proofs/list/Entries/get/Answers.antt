use Rattle.std.proofs.Common.{sym, arith}
use Rattle.prof_raw.proofs.ListLemmas.{past-get}
use Rattle.prof_raw.proofs.list.Entries.get.Goals as goal

pub returns-else-i-len : goal.returns-else-i-len
returns-else-i-len c = sym (past-get c.args.self.now c.args.i (omega (arith, c.if-i-len.false, c.len.ensures)))
