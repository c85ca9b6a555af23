use Rattle.beep_pair.proofs.PairLemmas.{send-leads-a, send-leads-b}
use Rattle.beep_pair.proofs.pair.Pair.send.Goals as goal

pub returns-in-A-clause-sent : goal.returns-in-A-clause-sent
returns-in-A-clause-sent c =
    send-leads-a c.args.at c.in-A.is c.send.result c.args.max c.args.self.now (record { a = c.self.inside.a; b = c.self.inside.b; to_a = c.self.inside.to_a; to_b = c.self.inside.to_b; accounts = c.self.inside.accounts }) c.self.view_is c.send.new.session c.send.new.wire c.send.new.accounts c.send.ensures.sent

pub returns-in-B-clause-sent : goal.returns-in-B-clause-sent
returns-in-B-clause-sent c =
    send-leads-b c.args.at c.in-B.is c.send-in-B.result c.args.max c.args.self.now (record { a = c.self.inside.a; b = c.self.inside.b; to_a = c.self.inside.to_a; to_b = c.self.inside.to_b; accounts = c.self.inside.accounts }) c.self.view_is c.send-in-B.new.session c.send-in-B.new.wire c.send-in-B.new.accounts c.send-in-B.ensures.sent
