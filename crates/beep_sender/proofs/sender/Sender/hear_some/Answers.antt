-- What comes leaves a sender so far, and what stops it shows on the log.
use Rattle.std.proofs.Common.{◌∙◌, refl, sym, ap, subst, take, drop}
use Rattle.beep_steps.specs.beep_journal.specs.Log.{got_all}
use Rattle.beep_steps.specs.beep_session.specs.Lawfully.{terms_of}
use Rattle.beep_steps.specs.beep_lawful.specs.declared.terms.Terms.{Terms}
use Rattle.beep_steps.specs.beep_talk.specs.declared.plan.Command.{Command}
use Rattle.beep_steps.specs.beep_talk.specs.Plan.{PlainPlan}
use Rattle.beep_steps.specs.declared.hearing.Came.{Came}
use Rattle.beep_steps.specs.Logs.{command_of}
use Rattle.beep_steps.specs.Refusing.{ComesUnrefused, IsUnrefused, RefusesOn}
use Rattle.beep_steps.specs.Sending.{ComesSending, StopsSending}
use Rattle.beep_steps.specs.Scripting.{ComesScripting}
use Rattle.beep_steps.proofs.CallScripts.{with-terms-scripted, waits-terms-scripted}
use Rattle.beep_steps.proofs.CallSends.{with-terms}
use Rattle.beep_steps.proofs.OnLemmas.{got-rest}
use Rattle.beep_sender.specs.Sender.{plan_by, plan_of, progress_of}
use Rattle.beep_steps.specs.Desking.{ComesDesk, DesksWithin}
use Rattle.beep_steps.specs.Steps.{CameFrame, CameMore, CameZero, ComesSo}
use Rattle.beep_sender.specs.Asking.{AsksWaiting}
use Rattle.beep_sender.proofs.AskingLemmas.{as-plan}
use Rattle.beep_sender.proofs.SenderLemmas.{same-terms, waits-terms}
use Rattle.beep_sender.proofs.TakingLemmas.{frame-takes, taken-asking}
use Rattle.beep_sender.proofs.sender.Sender.hear_some.Goals as goal

pub returns-in-Err-clause-stopped : goal.returns-in-Err-clause-stopped
returns-in-Err-clause-stopped c log s =
    let one = c.args.self.now in
    c.in-Err.ensures.stops (plan_of one) (progress_of one) log refl s

pub returns-in-More-clause-heard : goal.returns-in-More-clause-heard
returns-in-More-clause-heard c log s =
    let one = c.args.self.now in
    let new = c.hear_next.new.session in
    let front = got_all (take c.in-Ok.heard.0 c.args.bytes.now) log in
    with-terms (plan_of one) (terms_of new) (progress_of one) new front
    (subst (λ (x : Came). ComesSending (plan_of one) (progress_of one) x new front) c.in-More.is (c.in-Ok.ensures.sending (plan_of one) (progress_of one) log s))

pub returns-in-More-clause-more : goal.returns-in-More-clause-more
returns-in-More-clause-more c log s some = c.in-Ok.ensures.more log s.on some

pub returns-in-Arrived-clause-heard : goal.returns-in-Arrived-clause-heard
returns-in-Arrived-clause-heard c log s =
    let one = c.args.self.now in
    let mid = c.hear_next.new.session in
    let new = c.take_all.new.session in
    let front = got_all (take c.in-Ok.heard.0 c.args.bytes.now) log in
    with-terms (plan_of one) (terms_of new) (progress_of one) new front
    (c.take_all.ensures.sending (plan_of one) (progress_of one) front
    (subst (λ (x : Came). ComesSending (plan_of one) (progress_of one) x mid front) c.in-Arrived.is (c.in-Ok.ensures.sending (plan_of one) (progress_of one) log s)))

pub returns-in-Arrived-clause-more : goal.returns-in-Arrived-clause-more
returns-in-Arrived-clause-more c log s some = c.in-Ok.ensures.more log s.on some

pub returns-in-Ok-settle-clause-heard : goal.returns-in-Ok-settle-clause-heard
returns-in-Ok-settle-clause-heard c log s =
    let one = c.args.self.now in
    let new = c.hear_next.new.session in
    let front = got_all (take c.in-Ok.heard.0 c.args.bytes.now) log in
    c.in-Ok-settle.ensures.settled front
    (waits-terms (plan_of one) (terms_of new) (progress_of one) new front
    (subst (λ (x : Came). ComesSending (plan_of one) (progress_of one) x new front) c.in-Zero.is (c.in-Ok.ensures.sending (plan_of one) (progress_of one) log s)))

pub returns-in-Ok-settle-clause-more : goal.returns-in-Ok-settle-clause-more
returns-in-Ok-settle-clause-more c log s some = c.in-Ok.ensures.more log s.on some

pub returns-in-Err-settle-clause-stopped : goal.returns-in-Err-settle-clause-stopped
returns-in-Err-settle-clause-stopped c log s =
    let one = c.args.self.now in
    let new = c.hear_next.new.session in
    let bytes = c.args.bytes.now in
    let count = c.in-Ok.heard.0 in
    let front = got_all (take count bytes) log in
    let stop = c.in-Err-settle.stop in
    subst (λ (plan : PlainPlan). StopsSending plan stop (got_all bytes log)) (same-terms one.uri.now one.lines.now one.session new c.hear_next.ensures.terms)
    (subst (StopsSending (plan_by new one.uri.now one.lines.now) stop) (got-rest count bytes log)
    (c.in-Err-settle.ensures.stopped front (drop count bytes)
    (waits-terms (plan_of one) (terms_of new) (progress_of one) new front
    (subst (λ (x : Came). ComesSending (plan_of one) (progress_of one) x new front) c.in-Zero.is (c.in-Ok.ensures.sending (plan_of one) (progress_of one) log s)))))

pub returns-in-More-clause-scripted : goal.returns-in-More-clause-scripted
returns-in-More-clause-scripted c log s =
    let one = c.args.self.now in
    let new = c.hear_next.new.session in
    let front = got_all (take c.in-Ok.heard.0 c.args.bytes.now) log in
    with-terms-scripted (plan_of one) (terms_of new) (progress_of one) new front c.hear_next.ensures.terms
    (subst (λ (x : Came). ComesScripting (plan_of one) (progress_of one) x new front) c.in-More.is (c.in-Ok.ensures.scripted (plan_of one) (progress_of one) log s))

pub returns-in-Arrived-clause-scripted : goal.returns-in-Arrived-clause-scripted
returns-in-Arrived-clause-scripted c log s =
    let one = c.args.self.now in
    let mid = c.hear_next.new.session in
    let new = c.take_all.new.session in
    let front = got_all (take c.in-Ok.heard.0 c.args.bytes.now) log in
    with-terms-scripted (plan_of one) (terms_of new) (progress_of one) new front (c.take_all.ensures.stays.terms ∙ c.hear_next.ensures.terms)
    (c.take_all.ensures.scripted (plan_of one) (progress_of one) front
    (subst (λ (x : Came). ComesScripting (plan_of one) (progress_of one) x mid front) c.in-Arrived.is (c.in-Ok.ensures.scripted (plan_of one) (progress_of one) log s)))

pub returns-in-Ok-settle-clause-scripted : goal.returns-in-Ok-settle-clause-scripted
returns-in-Ok-settle-clause-scripted c log s =
    let one = c.args.self.now in
    let new = c.hear_next.new.session in
    let front = got_all (take c.in-Ok.heard.0 c.args.bytes.now) log in
    c.in-Ok-settle.ensures.scripted front
    (waits-terms-scripted (plan_of one) (terms_of new) (progress_of one) new front c.hear_next.ensures.terms
    (subst (λ (x : Came). ComesScripting (plan_of one) (progress_of one) x new front) c.in-Zero.is (c.in-Ok.ensures.scripted (plan_of one) (progress_of one) log s)))

pub returns-in-More-clause-unrefused : goal.returns-in-More-clause-unrefused
returns-in-More-clause-unrefused c log s u =
    let one = c.args.self.now in
    let front = got_all (take c.in-Ok.heard.0 c.args.bytes.now) log in
    subst (λ (x : Came). ComesUnrefused Command.Send one.is_closing x c.hear_next.new.session front) c.in-More.is (c.in-Ok.ensures.unrefused Command.Send one.is_closing log s.on u)

pub returns-in-Arrived-clause-unrefused : goal.returns-in-Arrived-clause-unrefused
returns-in-Arrived-clause-unrefused c log s u =
    let one = c.args.self.now in
    let front = got_all (take c.in-Ok.heard.0 c.args.bytes.now) log in
    subst (λ (x : Came). ComesUnrefused Command.Send one.is_closing x c.hear_next.new.session front) c.in-Arrived.is (c.in-Ok.ensures.unrefused Command.Send one.is_closing log s.on u)

pub returns-in-Ok-settle-clause-unrefused : goal.returns-in-Ok-settle-clause-unrefused
returns-in-Ok-settle-clause-unrefused c log s u =
    let one = c.args.self.now in
    let new = c.hear_next.new.session in
    let front = got_all (take c.in-Ok.heard.0 c.args.bytes.now) log in
    let w = waits-terms (plan_of one) (terms_of new) (progress_of one) new front
    (subst (λ (x : Came). ComesSending (plan_of one) (progress_of one) x new front) c.in-Zero.is (c.in-Ok.ensures.sending (plan_of one) (progress_of one) log s)) in
    c.in-Ok-settle.ensures.unrefused front w
    ((subst (λ (x : Came). ComesUnrefused Command.Send one.is_closing x new front) c.in-Zero.is (c.in-Ok.ensures.unrefused Command.Send one.is_closing log s.on u)) w.on)

pub returns-in-Err-settle-clause-refuses : goal.returns-in-Err-settle-clause-refuses
returns-in-Err-settle-clause-refuses c log s u =
    let one = c.args.self.now in
    let new = c.hear_next.new.session in
    let bytes = c.args.bytes.now in
    let count = c.in-Ok.heard.0 in
    let front = got_all (take count bytes) log in
    let stop = c.in-Err-settle.stop in
    let w = waits-terms (plan_of one) (terms_of new) (progress_of one) new front
    (subst (λ (x : Came). ComesSending (plan_of one) (progress_of one) x new front) c.in-Zero.is (c.in-Ok.ensures.sending (plan_of one) (progress_of one) log s)) in
    subst (λ (t : Terms). RefusesOn t stop (got_all bytes log)) c.hear_next.ensures.terms
    (subst (RefusesOn (terms_of new) stop) (got-rest count bytes log)
    (c.in-Err-settle.ensures.refuses front (drop count bytes) w
    ((subst (λ (x : Came). ComesUnrefused Command.Send one.is_closing x new front) c.in-Zero.is (c.in-Ok.ensures.unrefused Command.Send one.is_closing log s.on u)) w.on)))

pub returns-in-Err-clause-refuses : goal.returns-in-Err-clause-refuses
returns-in-Err-clause-refuses c log s u =
    let one = c.args.self.now in
    c.in-Err.ensures.refuses one.is_closing log s.on (subst (λ (x : Command). IsUnrefused x one.is_closing log) (sym (ap command_of s.sender.role)) u)

pub returns-in-More-clause-asking : goal.returns-in-More-clause-asking
returns-in-More-clause-asking c log a =
    let one = c.args.self.now in
    let new = c.hear_next.new.session in
    let front = got_all (take c.in-Ok.heard.0 c.args.bytes.now) log in
    let came : CameMore one.session new a.0.sends.on.journal front = subst (λ (x : Came). ComesSo x one.session new a.0.sends.on.journal front) c.in-More.is (c.in-Ok.ensures.came log a.0.sends.on) in (
      returns-in-More-clause-scripted c log a.0,
      as-plan (plan_of one) _ new front (same-terms one.uri.now one.lines.now one.session new c.hear_next.ensures.terms)
          (subst (λ (x : Came). ComesDesk (plan_of one) x new front) c.in-More.is (c.in-Ok.ensures.desk (plan_of one) log a.1.0), came.taken a.1.1),
    )

-- all of the frame is taken, for which nothing is asked
pub returns-in-Arrived-clause-asking : goal.returns-in-Arrived-clause-asking
returns-in-Arrived-clause-asking c log a =
    let one = c.args.self.now in
    let mid = c.hear_next.new.session in
    let new = c.take_all.new.session in
    let number = c.in-Arrived.number in
    let journal = a.0.sends.on.journal in
    let front = got_all (take c.in-Ok.heard.0 c.args.bytes.now) log in
    let came : CameFrame number one.session mid journal front = subst (λ (x : Came). ComesSo x one.session mid journal front) c.in-Arrived.is (c.in-Ok.ensures.came log a.0.sends.on) in
    let x = subst (λ (x : Came). ComesScripting (plan_of one) (progress_of one) x mid front) c.in-Arrived.is (c.in-Ok.ensures.scripted (plan_of one) (progress_of one) log a.0) in
    let d : DesksWithin (plan_of one) mid front = subst (λ (x : Came). ComesDesk (plan_of one) x mid front) c.in-Arrived.is (c.in-Ok.ensures.desk (plan_of one) log a.1.0) in (
      returns-in-Arrived-clause-scripted c log a.0,
      as-plan (plan_of one) _ new front (same-terms one.uri.now one.lines.now one.session new (c.take_all.ensures.stays.terms ∙ c.hear_next.ensures.terms))
          (taken-asking (plan_of one) (progress_of one) number one.session mid new journal front came (c.take_all.ensures.scripted (plan_of one) (progress_of one) front x) d
          (c.take_all.ensures.asking (plan_of one) (progress_of one) front x d) (c.take_all.ensures.taken front (frame-takes number one.session mid journal front came a.1.1 c.in-Ok.ensures.going))),
    )

pub returns-in-Ok-settle-clause-asking : goal.returns-in-Ok-settle-clause-asking
returns-in-Ok-settle-clause-asking c log a =
    let one = c.args.self.now in
    let new = c.hear_next.new.session in
    let front = got_all (take c.in-Ok.heard.0 c.args.bytes.now) log in
    let came : CameZero one.session new a.0.sends.on.journal front = subst (λ (x : Came). ComesSo x one.session new a.0.sends.on.journal front) c.in-Zero.is (c.in-Ok.ensures.came log a.0.sends.on) in
    c.in-Ok-settle.ensures.asking front (
      waits-terms-scripted (plan_of one) (terms_of new) (progress_of one) new front c.hear_next.ensures.terms
          (subst (λ (x : Came). ComesScripting (plan_of one) (progress_of one) x new front) c.in-Zero.is (c.in-Ok.ensures.scripted (plan_of one) (progress_of one) log a.0)),
      subst (λ (p : PlainPlan). AsksWaiting p new front) (sym (same-terms one.uri.now one.lines.now one.session new c.hear_next.ensures.terms))
          (subst (λ (x : Came). ComesDesk (plan_of one) x new front) c.in-Zero.is (c.in-Ok.ensures.desk (plan_of one) log a.1.0), came.taken a.1.1),
    )
