use Rattle.std.proofs.Common.{◌∙◌}
use Rattle.beep_pair.proofs.PairLemmas.{act-leads-a, act-leads-b, bare_done}
use Rattle.beep_pair.proofs.pair.Pair.act.Goals as goal

pub returns-in-A-clause-done : goal.returns-in-A-clause-done
returns-in-A-clause-done c =
    act-leads-a c.args.at c.in-A.is c.act_counted.result c.args.act c.args.n c.args.len c.args.fill (bare_done c.args.at c.args.act c.args.n c.args.len c.args.fill c.requires.valid) _ c.args.self.now (record { a = c.self.inside.a; b = c.self.inside.b; to_a = c.self.inside.to_a; to_b = c.self.inside.to_b; accounts = c.self.inside.accounts }) c.self.view_is c.act_counted.new.session c.act_counted.new.accounts
    (c.as_slice-octets.ensures ∙ c.in_ok-fill_message.ensures) c.act_counted.ensures.answered c.act_counted.ensures.upright c.act_counted.ensures.counted

pub returns-clause-done : goal.returns-clause-done
returns-clause-done c =
    act-leads-b c.args.at c.in-B.is c.act_counted-in-B.result c.args.act c.args.n c.args.len c.args.fill (bare_done c.args.at c.args.act c.args.n c.args.len c.args.fill c.requires.valid) _ c.args.self.now (record { a = c.self.inside.a; b = c.self.inside.b; to_a = c.self.inside.to_a; to_b = c.self.inside.to_b; accounts = c.self.inside.accounts }) c.self.view_is c.act_counted-in-B.new.session c.act_counted-in-B.new.accounts
    (c.as_slice-octets.ensures ∙ c.in_ok-fill_message.ensures) c.act_counted-in-B.ensures.answered c.act_counted-in-B.ensures.upright c.act_counted-in-B.ensures.counted
