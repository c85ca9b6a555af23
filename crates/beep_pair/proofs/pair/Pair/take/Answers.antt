use Rattle.std.proofs.Common.{arith}
use Rattle.beep_pair.proofs.PairLemmas.{take-leads-a, take-leads-b}
use Rattle.beep_pair.proofs.pair.Pair.take.Goals as goal

pub returns-in-A-clause-taken : goal.returns-in-A-clause-taken
returns-in-A-clause-taken c =
    take-leads-a c.args.at c.in-A.is c.args.n _ c.take_on.result c.take_on.new.buf c.args.self.now (record { a = c.self.inside.a; b = c.self.inside.b; to_a = c.self.inside.to_a; to_b = c.self.inside.to_b; accounts = c.self.inside.accounts }) c.self.view_is c.take_on.new.session c.take_on.new.accounts
    (omega arith) c.take_on.ensures.taken c.take_on.ensures.counted

pub returns-in-B-clause-taken : goal.returns-in-B-clause-taken
returns-in-B-clause-taken c =
    take-leads-b c.args.at c.in-B.is c.args.n _ c.take_on-in-B.result c.take_on-in-B.new.buf c.args.self.now (record { a = c.self.inside.a; b = c.self.inside.b; to_a = c.self.inside.to_a; to_b = c.self.inside.to_b; accounts = c.self.inside.accounts }) c.self.view_is c.take_on-in-B.new.session c.take_on-in-B.new.accounts
    (omega arith) c.take_on-in-B.ensures.taken c.take_on-in-B.ensures.counted
