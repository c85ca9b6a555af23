-- What `one_profile` says of each number it says of this one; a start that is given is the sender's own.
use Rattle.std.proofs.Common.{◌≡◌, ◌∙◌, ap, false, refl, rules, sym, true}
use Rattle.beep_sender.specs.declared.sender.TheConstants.{CHANNEL}
use Rattle.beep_steps.specs.beep_session.specs.Lawfully.{terms_of}
use Rattle.beep_sender.specs.Sender.{plan_of, progress_of}
use Rattle.beep_steps.proofs.CallSends.{starts-sends, unchanged-sends, with-terms}
use Rattle.beep_sender.proofs.SenderLemmas.{same-terms}
use Rattle.beep_steps.proofs.CallScripts.{starts-scripts, unchanged-scripts, with-terms-scripted}
use Rattle.beep_steps.proofs.PartLemmas.{none-waits}
use Rattle.beep_steps.proofs.SendStarts.{start-first, starts-freely}
use Rattle.beep_steps.specs.beep_peer.specs.declared.refusals.StartError.{StartError}
use Rattle.beep_sender.proofs.AskingLemmas.{as-plan, none-refuses, starts-asking}
use Rattle.beep_steps.specs.beep_journal.specs.declared.role.Role.{Role}
use Rattle.beep_steps.specs.beep_decide.specs.Numbers.{may_start}
use Rattle.beep_sender.proofs.sender.Sender.start.Goals as goal
use Rattle.beep_sender.proofs.sender.Sender.start.Goals.{then-self-ne-UNSTARTED-via-then-self-ne-UNSTARTED, then-self-ne-UNSTARTED-via-else-self-ne-UNSTARTED+then-zero_waits, then-self-ne-UNSTARTED-via-else-self-ne-UNSTARTED+else-zero_waits+then-not-may_start}

pub start-requires-clause-back : goal.start-requires-clause-back
start-requires-clause-back c = c.in_ok-profiles.ensures.back CHANNEL

pub returns-in-Ok-clause-sends : goal.returns-in-Ok-clause-sends
returns-in-Ok-clause-sends c log s =
    let one = c.args.self.now in
    let new = c.start.new.self in
    with-terms (plan_of one) (terms_of new) (record (progress_of one) { asked = 1 }) new log
    (starts-sends (plan_of one) (progress_of one) one.session new _ c.in_ok-profiles.ensures.listed (search rules) c.start.ensures.same c.in-Ok.ensures.ok c.start.ensures.upright log s)

pub returns-in-Err-NoMemory-clause-sends : goal.returns-in-Err-NoMemory-clause-sends
returns-in-Err-NoMemory-clause-sends c log s =
    let one = c.args.self.now in
    let new = c.start.new.self in
    with-terms (plan_of one) (terms_of new) (progress_of one) new log
    (unchanged-sends (plan_of one) one.session new c.start.ensures.same (progress_of one) c.in-Err-NoMemory.ensures.err c.start.ensures.upright log s)

pub returns : goal.returns
returns c =
    let one = c.args.self.now in
    let new = c.start.new.self in
    record {
      sends = λ log s. with-terms (plan_of one) (terms_of new) (progress_of one) new log
          (unchanged-sends (plan_of one) one.session new c.start.ensures.same (progress_of one) c.in-Err-Ended.ensures.err c.start.ensures.upright log s);
      scripted = λ log s. with-terms-scripted (plan_of one) (terms_of new) (progress_of one) new log (ap terms_of c.start.ensures.same)
          (unchanged-scripts (plan_of one) one.session new c.start.ensures.same (progress_of one) c.in-Err-Ended.ensures.err c.start.ensures.upright log s);
      asking = λ log s a.
          let free = starts-freely (plan_of one) (progress_of one) one.session log a.desk s refl (a.so.greeted refl) _ c.in_ok-profiles.ensures.listed in
          absurd (none-refuses c.start.result StartError.NoMemory c.in-Err-Ended.field-0 _
          free c.in-Err-Ended.is c.start.ensures.refused (search rules));
      closing = refl;
      plan = same-terms one.uri.now one.lines.now one.session new (ap terms_of c.start.ensures.same);
    }

pub returns-in-Ok-clause-scripted : goal.returns-in-Ok-clause-scripted
returns-in-Ok-clause-scripted c log s =
    let one = c.args.self.now in
    let new = c.start.new.self in
    with-terms-scripted (plan_of one) (terms_of new) (record (progress_of one) { asked = 1 }) new log (ap terms_of c.start.ensures.same)
    (starts-scripts (plan_of one) (progress_of one) one.session new _ c.in_ok-profiles.ensures.listed (search rules) c.start.ensures.same c.in-Ok.ensures.ok c.start.ensures.upright log s)

pub returns-in-Err-NoMemory-clause-scripted : goal.returns-in-Err-NoMemory-clause-scripted
returns-in-Err-NoMemory-clause-scripted c log s =
    let one = c.args.self.now in
    let new = c.start.new.self in
    with-terms-scripted (plan_of one) (terms_of new) (progress_of one) new log (ap terms_of c.start.ensures.same)
    (unchanged-scripts (plan_of one) one.session new c.start.ensures.same (progress_of one) c.in-Err-NoMemory.ensures.err c.start.ensures.upright log s)

pub returns-in-Ok-clause-asking : goal.returns-in-Ok-clause-asking
returns-in-Ok-clause-asking c log s a =
    let one = c.args.self.now in
    let new = c.start.new.self in (
      returns-in-Ok-clause-scripted c log s,
      as-plan (plan_of one) _ new log (same-terms one.uri.now one.lines.now one.session new (ap terms_of c.start.ensures.same))
          (starts-asking (plan_of one) (progress_of one) one.session new c.start.ensures.same c.start.ensures.upright c.in-Ok.ensures.kept log s (start-first (plan_of one) (progress_of one) one.session log a.desk s refl (a.so.greeted refl)) _
          c.in_ok-profiles.ensures.listed c.in-Ok.ensures.ok a),
    )

-- the start isn't turned away where it is called for
pub returns-then-self-ne-UNSTARTED-clause-asking : goal.returns-then-self-ne-UNSTARTED-clause-asking
returns-then-self-ne-UNSTARTED-clause-asking c log s a =
    let one = c.args.self.now in
    elim c.then-self-ne-UNSTARTED.branch [
      | then-self-ne-UNSTARTED-via-then-self-ne-UNSTARTED w ↦
          absurd (w.if-self-ne-UNSTARTED.true (start-first (plan_of one) (progress_of one) one.session log a.desk s refl (a.so.greeted refl)))
      | then-self-ne-UNSTARTED-via-else-self-ne-UNSTARTED+then-zero_waits w ↦
          absurd (let g : true ≡ false = sym w.if-zero_waits.true ∙ w.zero_waits.ensures ∙ none-waits one.session log s.sends.on in cc)
      | then-self-ne-UNSTARTED-via-else-self-ne-UNSTARTED+else-zero_waits+then-not-may_start w ↦
          absurd (let g : false ≡ true = sym w.if-not-may_start.true ∙ w.may_start.ensures ∙ ap (λ (r : Role). may_start r 1) s.sends.sender.role in cc)
    ]
