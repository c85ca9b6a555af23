-- The end of the lines has gone.
use Rattle.std.proofs.Common.{◌≡◌, ◌∙◌, ◌==◌, Bool, true, false, not, ◌&&◌, ap, refl, sym, subst}
use Rattle.beep_steps.specs.beep_frame.specs.Frame.{is_nul}
use Rattle.beep_steps.specs.Sending.{SendsOn}
use Rattle.beep_sender.specs.Sender.{plan_of, progress_of}
use Rattle.beep_sender.proofs.AskingLemmas.{gone-closing, gone-quiet}
use Rattle.beep_sender.proofs.SenderLemmas.{or-left, or-neither, or-right}
use Rattle.beep_steps.specs.Scripting.{ScriptedOn}
use Rattle.beep_sender.proofs.sender.Sender.went.Goals as goal

pub returns-clause-sends : goal.returns-clause-sends
returns-clause-sends c log s =
    let one = c.args.self.now in
    c.close.ensures.sends refl log
    (subst (λ (b : Bool). SendsOn (plan_of one) (record (progress_of one) { is_sent = b }) one.session log)
    (or-right one.is_sent _ (sym c.ends_lines.ensures ∙ c.if-not-ends_lines.false)) s)

pub returns-clause-scripted : goal.returns-clause-scripted
returns-clause-scripted c log s =
    let one = c.args.self.now in
    c.close.ensures.scripted refl log
    (subst (λ (b : Bool). ScriptedOn (plan_of one) (record (progress_of one) { is_sent = b }) one.session log)
    (or-right one.is_sent _ (sym c.ends_lines.ensures ∙ c.if-not-ends_lines.false)) s)

-- the end had gone already
pub returns-then-self-clause-asking : goal.returns-then-self-clause-asking
returns-then-self-clause-asking c log s a =
    let one = c.args.self.now in (
      subst (λ (b : Bool). ScriptedOn (plan_of one) (record (progress_of one) { is_sent = b }) one.session log) (or-left one.is_sent _ c.if-self.true) s,
      gone-quiet (plan_of one) (progress_of one) c.args.head.now one.session log a _ s (ap (λ (b : Bool). not b && (c.args.head.now.channel == 1 && is_nul c.args.head.now.kind)) c.if-self.true),
    )

-- it hasn't
pub returns-then-not-ends_lines-clause-asking : goal.returns-then-not-ends_lines-clause-asking
returns-then-not-ends_lines-clause-asking c log s a =
    let one = c.args.self.now in
    let none = sym c.ends_lines.ensures ∙ c.if-not-ends_lines.true in (
      subst (λ (b : Bool). ScriptedOn (plan_of one) (record (progress_of one) { is_sent = b }) one.session log) (or-neither one.is_sent _ none) s,
      gone-quiet (plan_of one) (progress_of one) c.args.head.now one.session log a _ s (neither (not one.is_sent) _ none),
    )
  where
    neither : (x y : Bool) → y ≡ false → (x && y) ≡ false
    neither true y e = e
    neither false y e = refl

pub returns-clause-asking : goal.returns-clause-asking
returns-clause-asking c log s a =
    let one = c.args.self.now in
    let ends = sym c.ends_lines.ensures ∙ c.if-not-ends_lines.false in
    c.close.ensures.asking log refl
    (subst (λ (b : Bool). ScriptedOn (plan_of one) (record (progress_of one) { is_sent = b }) one.session log) (or-right one.is_sent _ ends) s)
    (gone-closing (plan_of one) (progress_of one) c.args.head.now one.session log a c.if-self.false ends)
