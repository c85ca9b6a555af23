-- What went out was a frame.
use Rattle.std.proofs.Common.{subst, refl}
use Rattle.beep_steps.specs.beep_speaking.specs.declared.emit.Emit.{Emit}
use Rattle.beep_steps.specs.Sending.{SendsOn, went_by}
use Rattle.beep_sender.specs.Sender.{plan_of, progress_of}
use Rattle.beep_steps.specs.Scripting.{ScriptedOn}
use Rattle.beep_sender.specs.Asking.{AsksSaid}
use Rattle.beep_sender.proofs.sender.Sender.said.Goals as goal

pub returns-in-Ok-clause-sends : goal.returns-in-Ok-clause-sends
returns-in-Ok-clause-sends c log s =
    let one = c.args.self.now in
    c.went.ensures.sends log (subst (λ (e : Emit). SendsOn (plan_of one) (went_by e (progress_of one)) one.session log) c.in-Data.is s)

pub returns-in-Err-clause-sends : goal.returns-in-Err-clause-sends
returns-in-Err-clause-sends c log s =
    let one = c.args.self.now in
    c.went.ensures.sends log (subst (λ (e : Emit). SendsOn (plan_of one) (went_by e (progress_of one)) one.session log) c.in-Data.is s)

pub returns-in-Ok-clause-scripted : goal.returns-in-Ok-clause-scripted
returns-in-Ok-clause-scripted c log s =
    let one = c.args.self.now in
    c.went.ensures.scripted log (subst (λ (e : Emit). ScriptedOn (plan_of one) (went_by e (progress_of one)) one.session log) c.in-Data.is s)

pub returns-in-Err-clause-scripted : goal.returns-in-Err-clause-scripted
returns-in-Err-clause-scripted c log s =
    let one = c.args.self.now in
    c.went.ensures.scripted log (subst (λ (e : Emit). ScriptedOn (plan_of one) (went_by e (progress_of one)) one.session log) c.in-Data.is s)

pub returns-in-Ok-clause-asking : goal.returns-in-Ok-clause-asking
returns-in-Ok-clause-asking c log s a =
    let one = c.args.self.now in
    c.in-Ok.ensures.asking log (subst (λ (e : Emit). ScriptedOn (plan_of one) (went_by e (progress_of one)) one.session log) c.in-Data.is s)
    (subst (λ (e : Emit). AsksSaid (plan_of one) (progress_of one) e one.session log) c.in-Data.is a)

pub returns-in-Seq-clause-asking : goal.returns-in-Seq-clause-asking
returns-in-Seq-clause-asking c log s a =
    let one = c.args.self.now in (
      subst (λ (e : Emit). ScriptedOn (plan_of one) (went_by e (progress_of one)) one.session log) c.in-Seq.is s,
      subst (λ (e : Emit). AsksSaid (plan_of one) (progress_of one) e one.session log) c.in-Seq.is a,
    )

pub returns-in-Nothing-clause-asking : goal.returns-in-Nothing-clause-asking
returns-in-Nothing-clause-asking c log s a =
    let one = c.args.self.now in (
      subst (λ (e : Emit). ScriptedOn (plan_of one) (went_by e (progress_of one)) one.session log) c.in-Nothing.is s,
      subst (λ (e : Emit). AsksSaid (plan_of one) (progress_of one) e one.session log) c.in-Nothing.is a,
    )

pub returns-in-Nothing-clause-rests : goal.returns-in-Nothing-clause-rests
returns-in-Nothing-clause-rests c none = (c.in-Nothing.is, refl)
