use Rattle.beep_pair.proofs.PairLemmas.{get-leads-a, get-leads-b, get-ends-a, get-ends-b}
use Rattle.beep_pair.proofs.pair.Pair.get.Goals as goal

pub returns-in-A-clause-got : goal.returns-in-A-clause-got
returns-in-A-clause-got c =
    get-leads-a c.args.at c.in-A.is c.get.result c.args.count c.args.self.now (record { a = c.self.inside.a; b = c.self.inside.b; to_a = c.self.inside.to_a; to_b = c.self.inside.to_b; accounts = c.self.inside.accounts }) c.self.view_is c.get.new.session c.get.new.wire c.get.new.accounts c.get.ensures.got

pub returns-in-A-clause-all : goal.returns-in-A-clause-all
returns-in-A-clause-all c =
    get-ends-a c.args.at c.in-A.is c.get.result c.args.count (record { a = c.self.inside.a; b = c.self.inside.b; to_a = c.self.inside.to_a; to_b = c.self.inside.to_b; accounts = c.self.inside.accounts }) (record { a = c.get.new.session; b = c.self.inside.b; to_a = c.get.new.wire; to_b = c.self.inside.to_b; accounts = c.get.new.accounts }) c.get.ensures.got

pub returns-in-B-clause-got : goal.returns-in-B-clause-got
returns-in-B-clause-got c =
    get-leads-b c.args.at c.in-B.is c.get-in-B.result c.args.count c.args.self.now (record { a = c.self.inside.a; b = c.self.inside.b; to_a = c.self.inside.to_a; to_b = c.self.inside.to_b; accounts = c.self.inside.accounts }) c.self.view_is c.get-in-B.new.session c.get-in-B.new.wire c.get-in-B.new.accounts c.get-in-B.ensures.got

pub returns-in-B-clause-all : goal.returns-in-B-clause-all
returns-in-B-clause-all c =
    get-ends-b c.args.at c.in-B.is c.get-in-B.result c.args.count (record { a = c.self.inside.a; b = c.self.inside.b; to_a = c.self.inside.to_a; to_b = c.self.inside.to_b; accounts = c.self.inside.accounts }) (record { b = c.get-in-B.new.session; a = c.self.inside.a; to_b = c.get-in-B.new.wire; to_a = c.self.inside.to_a; accounts = c.get-in-B.new.accounts }) c.get-in-B.ensures.got
