use Rattle.std.proofs.Common.{rules, ◌≡◌, []}
use Rattle.beep_two_sessions.specs.beep_frame.specs.declared.kind.Kind.{Kind}
use Rattle.beep_two_sessions.specs.beep_session.specs.Channels.{Gives}
use Rattle.beep_two_sessions.specs.beep_session.specs.Lawfully.{KeepsUpright}
use Rattle.beep_pair.proofs.UprightLemmas.{upright-over, of-ok}
use Rattle.beep_pair.proofs.acts.done.Goals as goal

pub returns-in-Ok-clause-upright : goal.returns-in-Ok-clause-upright
returns-in-Ok-clause-upright c =
    let owed = c.match-this.answering in
    let now = c.done.follows.lender-at-none in
    let first : owed.session.now ≡ c.args.session.now = search rules in
    let last : c.session-in-Ok-2-1.given.0 ≡ now = search rules in
    let left = of-ok c.done.result c.in-Ok.field-0 (Gives owed.at Kind.Nul [] owed.session.now now × KeepsUpright owed.session.now now) c.in-Ok.is c.done.follows.holds-at-none in
    upright-over owed.session.now now c.args.session.now c.session-in-Ok-2-1.given.0 first last left.1
