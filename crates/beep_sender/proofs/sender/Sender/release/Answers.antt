-- A release that is given is the sender's own.
use Rattle.std.proofs.Common.{◌≡◌, ◌∙◌, ap, false, refl, sym, true, arith, rules}
use Rattle.beep_steps.specs.beep_session.specs.Lawfully.{terms_of}
use Rattle.beep_sender.specs.Sender.{plan_of, progress_of}
use Rattle.beep_steps.proofs.CallSends.{releases-sends, unchanged-sends, with-terms}
use Rattle.beep_sender.proofs.SenderLemmas.{same-terms}
use Rattle.beep_steps.proofs.CallScripts.{releases-scripts, unchanged-scripts, with-terms-scripted}
use Rattle.beep_steps.proofs.PartLemmas.{none-waits}
use Rattle.beep_steps.proofs.SendReleases.{releases-freely}
use Rattle.beep_steps.specs.beep_peer.specs.declared.refusals.ReleaseError.{ReleaseError}
use Rattle.beep_steps.specs.Desking.{closes_own}
use Rattle.beep_sender.proofs.AskingLemmas.{as-plan, none-refuses, releases-asking, settled-quiet}
use Rattle.beep_sender.proofs.sender.Sender.release.Goals as goal
use Rattle.beep_sender.proofs.sender.Sender.release.Goals.{then-self-ne-CLOSED-via-then-self-ne-CLOSED, then-self-ne-CLOSED-via-else-self-ne-CLOSED+then-zero_waits}

pub returns-in-Ok-clause-sends : goal.returns-in-Ok-clause-sends
returns-in-Ok-clause-sends c log s =
    let one = c.args.self.now in
    let new = c.release.new.self in
    with-terms (plan_of one) (terms_of new) (record (progress_of one) { asked = 3 }) new log
    (releases-sends (plan_of one) (progress_of one) one.session new (search rules) c.release.ensures.same c.in-Ok.ensures.ok c.release.ensures.upright log s)

pub returns-in-Err-NoMemory-clause-sends : goal.returns-in-Err-NoMemory-clause-sends
returns-in-Err-NoMemory-clause-sends c log s =
    let one = c.args.self.now in
    let new = c.release.new.self in
    with-terms (plan_of one) (terms_of new) (progress_of one) new log
    (unchanged-sends (plan_of one) one.session new c.release.ensures.same (progress_of one) c.in-Err-NoMemory.ensures.err c.release.ensures.upright log s)

pub returns-in-Err-Ended : goal.returns-in-Err-Ended
returns-in-Err-Ended c =
    let one = c.args.self.now in
    let new = c.release.new.self in
    record {
      sends = λ log s. with-terms (plan_of one) (terms_of new) (progress_of one) new log
          (unchanged-sends (plan_of one) one.session new c.release.ensures.same (progress_of one) c.in-Err-Ended.ensures.err c.release.ensures.upright log s);
      scripted = λ log s. with-terms-scripted (plan_of one) (terms_of new) (progress_of one) new log (ap terms_of c.release.ensures.same)
          (unchanged-scripts (plan_of one) one.session new c.release.ensures.same (progress_of one) c.in-Err-Ended.ensures.err c.release.ensures.upright log s);
      asking = λ settled log s a closes.
          let two : one.asked ≡ 2 = search rules in
          absurd (none-refuses c.release.result ReleaseError.NoMemory c.in-Err-Ended.field-0 _
          (releases-freely (plan_of one) (progress_of one) one.session log a.desk s refl (a.so.closed closes (omega (arith, two)))) c.in-Err-Ended.is c.release.ensures.refused (search rules));
      closing = refl;
      plan = same-terms one.uri.now one.lines.now one.session new (ap terms_of c.release.ensures.same);
    }

pub returns-in-Ok-clause-scripted : goal.returns-in-Ok-clause-scripted
returns-in-Ok-clause-scripted c log s =
    let one = c.args.self.now in
    let new = c.release.new.self in
    with-terms-scripted (plan_of one) (terms_of new) (record (progress_of one) { asked = 3 }) new log (ap terms_of c.release.ensures.same)
    (releases-scripts (plan_of one) (progress_of one) one.session new (search rules) c.release.ensures.same c.in-Ok.ensures.ok c.release.ensures.upright log s)

pub returns-in-Err-NoMemory-clause-scripted : goal.returns-in-Err-NoMemory-clause-scripted
returns-in-Err-NoMemory-clause-scripted c log s =
    let one = c.args.self.now in
    let new = c.release.new.self in
    with-terms-scripted (plan_of one) (terms_of new) (progress_of one) new log (ap terms_of c.release.ensures.same)
    (unchanged-scripts (plan_of one) one.session new c.release.ensures.same (progress_of one) c.in-Err-NoMemory.ensures.err c.release.ensures.upright log s)

pub returns-in-Ok-clause-asking : goal.returns-in-Ok-clause-asking
returns-in-Ok-clause-asking c settled log s a closes =
    let one = c.args.self.now in
    let new = c.release.new.self in (
      returns-in-Ok-clause-scripted c log s,
      as-plan (plan_of one) _ new log (same-terms one.uri.now one.lines.now one.session new (ap terms_of c.release.ensures.same))
          (releases-asking (plan_of one) (progress_of one) one.session new c.release.ensures.same c.release.ensures.upright c.in-Ok.ensures.kept log s (search rules) c.in-Ok.ensures.ok settled closes a),
    )

-- the release isn't turned away where it is called for
pub returns-then-self-ne-CLOSED-clause-asking : goal.returns-then-self-ne-CLOSED-clause-asking
returns-then-self-ne-CLOSED-clause-asking c settled log s a closes =
    let one = c.args.self.now in (
      s,
      settled-quiet (plan_of one) (progress_of one) one.session log s settled a refl (λ e. absurd (let h : true ≡ false = sym closes ∙ ap closes_own e in cc)) (λ h two.
          elim c.then-self-ne-CLOSED.branch [
            | then-self-ne-CLOSED-via-then-self-ne-CLOSED w ↦ absurd (w.if-self-ne-CLOSED.true two)
            | then-self-ne-CLOSED-via-else-self-ne-CLOSED+then-zero_waits w ↦ absurd (let g : true ≡ false = sym w.if-zero_waits.true ∙ w.zero_waits.ensures ∙ none-waits one.session log s.sends.on in cc)
          ]),
    )
