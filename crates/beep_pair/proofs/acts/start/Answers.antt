use Rattle.std.proofs.Common.{◌≡◌, None, subst}
use Rattle.beep_two_sessions.specs.beep_session.specs.Acts.{AsksZero, start_text, refusal_of_start}
use Rattle.beep_pair.proofs.acts.start.Goals as goal

pub start-requires-clause-back : goal.start-requires-clause-back
start-requires-clause-back c = c.in_ok-profiles.ensures.back c.args.n

pub returns-in-Ok-clause-answered : goal.returns-in-Ok-clause-answered
returns-in-Ok-clause-answered c =
    let listed = c.in_ok-profiles.ensures.listed in (
      subst (λ ps. refusal_of_start c.args.session.now.peer c.args.n ps ≡ None) listed c.in-Ok.ensures.accepted,
      ((λ fed rest journal given taken stands. subst (λ ps. AsksZero c.args.session.now.limits.window fed rest journal given taken (start_text c.args.n ps) c.start.new.self.peer) listed (c.in-Ok.ensures.ok fed rest journal given taken stands)), c.in-Ok.ensures.same),
    )
