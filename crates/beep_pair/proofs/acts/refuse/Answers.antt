use Rattle.std.proofs.Common.{rules, ◌≡◌}
use Rattle.beep_two_sessions.specs.beep_frame.specs.declared.kind.Kind.{Kind}
use Rattle.beep_two_sessions.specs.beep_session.specs.Channels.{Gives}
use Rattle.beep_two_sessions.specs.beep_session.specs.Lawfully.{KeepsUpright}
use Rattle.beep_pair.proofs.UprightLemmas.{upright-over, of-ok}
use Rattle.beep_pair.proofs.acts.refuse.Goals as goal

pub returns-in-Ok-clause-upright : goal.returns-in-Ok-clause-upright
returns-in-Ok-clause-upright c =
    let owed = c.in-Some-Fresh.owed in
    let now = c.refuse.follows.lender-at-none in
    let first : owed.session.now ≡ c.args.session.now = search rules in
    let last : c.session-in-Ok-2-1.given.0 ≡ now = search rules in
    let left = of-ok c.refuse.result c.in-Ok.field-0 (Gives owed.at Kind.Err c.args.octets.now owed.session.now now × KeepsUpright owed.session.now now) c.in-Ok.is c.refuse.follows.holds-at-none in
    upright-over owed.session.now now c.args.session.now c.session-in-Ok-2-1.given.0 first last left.1

pub returns-in-Err-clause-upright : goal.returns-in-Err-clause-upright
returns-in-Err-clause-upright c =
    let owed = c.in-Some-Fresh.owed in
    let back = c.in-Err._owed in
    let first : owed.session.now ≡ c.args.session.now = search rules in
    let last : c.session-in-Err-1.given.0 ≡ back.session.now = search rules in
    upright-over owed.session.now back.session.now c.args.session.now c.session-in-Err-1.given.0 first last c.in-Err.ensures.upright
