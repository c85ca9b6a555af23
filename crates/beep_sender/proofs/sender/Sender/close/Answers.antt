-- A close that is given is the sender's own.
use Rattle.std.proofs.Common.{◌≡◌, ◌∙◌, Bool, true, false, refl, sym, subst}
use Rattle.std.specs.Prelude.{Ok}
use Rattle.beep_steps.specs.beep_session.specs.Lawfully.{terms_of}
use Rattle.beep_steps.specs.Sending.{SendsOn, if_closed}
use Rattle.beep_steps.proofs.CallSends.{with-terms}
use Rattle.beep_steps.proofs.SendEnding.{close-going, close-second, close-there}
use Rattle.beep_sender.specs.Sender.{plan_of, progress_of}
use Rattle.beep_steps.specs.Scripting.{ScriptedOn}
use Rattle.beep_steps.proofs.CallScripts.{with-terms-scripted}
use Rattle.beep_sender.proofs.AskingLemmas.{as-plan}
use Rattle.beep_sender.proofs.SenderLemmas.{same-terms}
use Rattle.beep_sender.proofs.sender.Sender.close.Goals as goal

pub returns-in-Ok-true-clause-sends : goal.returns-in-Ok-true-clause-sends
returns-in-Ok-true-clause-sends c sent log s =
    let one = c.args.self.now in
    let new = c.close_channel.new.session in
    with-terms (plan_of one) (terms_of new) (record (progress_of one) { asked = 2 }) new log
    (subst (λ (b : Bool). SendsOn (plan_of one) (if_closed (Ok b) (progress_of one)) new log) c.in-Ok-true.field-0-test
    (c.in-Ok-true.ensures.sends (plan_of one) (progress_of one) c.if-self-ne-STARTED.false sent log s))

pub returns-in-Ok-false-clause-sends : goal.returns-in-Ok-false-clause-sends
returns-in-Ok-false-clause-sends c sent log s =
    let one = c.args.self.now in
    let new = c.close_channel.new.session in
    with-terms (plan_of one) (terms_of new) (progress_of one) new log
    (subst (λ (b : Bool). SendsOn (plan_of one) (if_closed (Ok b) (progress_of one)) new log) c.in-Ok-false.field-0-test
    (c.in-Ok-false.ensures.sends (plan_of one) (progress_of one) c.if-self-ne-STARTED.false sent log s))

pub returns-in-Err-clause-sends : goal.returns-in-Err-clause-sends
returns-in-Err-clause-sends c sent log s =
    let one = c.args.self.now in
    let new = c.close_channel.new.session in
    with-terms (plan_of one) (terms_of new) (progress_of one) new log (c.in-Err.ensures.sends (plan_of one) (progress_of one) c.if-self-ne-STARTED.false sent log s)

pub returns-in-Ok-true-clause-scripted : goal.returns-in-Ok-true-clause-scripted
returns-in-Ok-true-clause-scripted c sent log s =
    let one = c.args.self.now in
    let new = c.close_channel.new.session in
    with-terms-scripted (plan_of one) (terms_of new) (record (progress_of one) { asked = 2 }) new log c.close_channel.ensures.terms
    (subst (λ (b : Bool). ScriptedOn (plan_of one) (if_closed (Ok b) (progress_of one)) new log) c.in-Ok-true.field-0-test
    (c.in-Ok-true.ensures.scripted (plan_of one) (progress_of one) c.if-self-ne-STARTED.false sent log s))

pub returns-in-Ok-false-clause-scripted : goal.returns-in-Ok-false-clause-scripted
returns-in-Ok-false-clause-scripted c sent log s =
    let one = c.args.self.now in
    let new = c.close_channel.new.session in
    with-terms-scripted (plan_of one) (terms_of new) (progress_of one) new log c.close_channel.ensures.terms
    (subst (λ (b : Bool). ScriptedOn (plan_of one) (if_closed (Ok b) (progress_of one)) new log) c.in-Ok-false.field-0-test
    (c.in-Ok-false.ensures.scripted (plan_of one) (progress_of one) c.if-self-ne-STARTED.false sent log s))

pub returns-in-Err-clause-scripted : goal.returns-in-Err-clause-scripted
returns-in-Err-clause-scripted c sent log s =
    let one = c.args.self.now in
    let new = c.close_channel.new.session in
    with-terms-scripted (plan_of one) (terms_of new) (progress_of one) new log c.close_channel.ensures.terms (c.in-Err.ensures.scripted (plan_of one) (progress_of one) c.if-self-ne-STARTED.false sent log s)

-- the close is the next that is asked
pub returns-then-self-ne-STARTED-clause-asking : goal.returns-then-self-ne-STARTED-clause-asking
returns-then-self-ne-STARTED-clause-asking c log sent s a =
    let one = c.args.self.now in
    absurd (c.if-self-ne-STARTED.true (close-second (plan_of one) (progress_of one) one.session log a.desk s refl a.next a.few))

pub returns-in-Ok-true-clause-asking : goal.returns-in-Ok-true-clause-asking
returns-in-Ok-true-clause-asking c log sent s a =
    let one = c.args.self.now in
    let new = c.close_channel.new.session in
    let at = c.if-self-ne-STARTED.false in (
      returns-in-Ok-true-clause-scripted c sent log s,
      as-plan (plan_of one) _ new log (same-terms one.uri.now one.lines.now one.session new c.close_channel.ensures.terms)
          (c.in-Ok-true.ensures.asking (plan_of one) (progress_of one) log a.desk s at sent a.taken a.next c.in-Ok-true.field-0-test),
    )

-- and isn't refused
pub returns-in-Ok-false-clause-asking : goal.returns-in-Ok-false-clause-asking
returns-in-Ok-false-clause-asking c log sent s a =
    let one = c.args.self.now in
    let given = c.in-Ok-false.ensures.given (plan_of one) (progress_of one) log s c.if-self-ne-STARTED.false
    (close-going (plan_of one) (progress_of one) one.session log a.desk s refl a.next) (close-there (plan_of one) (progress_of one) one.session log a.desk s refl a.next) in
    absurd (let h : true ≡ false = sym given ∙ c.in-Ok-false.field-0-test in cc)
