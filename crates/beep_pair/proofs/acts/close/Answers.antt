use Rattle.std.proofs.Common.{rules, ◌≡◌}
use Rattle.beep_pair.proofs.UprightLemmas.{upright-over}
use Rattle.beep_pair.proofs.acts.close.Goals as goal

pub returns-in-Ok-clause-upright : goal.returns-in-Ok-clause-upright
returns-in-Ok-clause-upright c =
    let first : c.in-Some.channel.session.now ≡ c.args.session.now = search rules in
    let last : c.session-2-1.given.0 ≡ c.try_close.new.self.session.now = search rules in
    upright-over c.in-Some.channel.session.now c.try_close.new.self.session.now c.args.session.now c.session-2-1.given.0 first last c.try_close.ensures.upright

pub returns-in-Err-clause-upright : goal.returns-in-Err-clause-upright
returns-in-Err-clause-upright c =
    let first : c.in-Some.channel.session.now ≡ c.args.session.now = search rules in
    let last : c.session-2-1.given.0 ≡ c.try_close.new.self.session.now = search rules in
    upright-over c.in-Some.channel.session.now c.try_close.new.self.session.now c.args.session.now c.session-2-1.given.0 first last c.try_close.ensures.upright
