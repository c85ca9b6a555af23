-- A close that is given is the sender's own; one that is refused leaves it so far.
use Rattle.std.proofs.Common.{◌≡◌, ◌∙◌, ap, false, true, sym, subst, rules}
use Rattle.beep_steps.specs.beep_session.specs.Session.{Held}
use Rattle.beep_steps.specs.beep_talk.specs.Plan.{PlainPlan}
use Rattle.beep_steps.specs.Sending.{KeepsSending, Progress}
use Rattle.beep_steps.proofs.CallSends.{closes-sends, still-sends}
use Rattle.beep_steps.specs.Scripting.{KeepsScripting}
use Rattle.beep_steps.proofs.CallScripts.{closes-scripts, still-scripts}
use Rattle.std.specs.Prelude.{is_some}
use Rattle.beep_sender.specs.Asking.{AsksOn}
use Rattle.beep_sender.proofs.ClosesLemmas.{busy-apart, closes-asking, many-apart, opens, some-none, unrefused-close}
use Rattle.beep_sender.proofs.ScriptedLemmas.{handed-scripted}
use Rattle.beep_sender.proofs.sender.giving.close_channel.Goals as goal

-- the session that is looked at is the one that was handed over
handed : (plan : PlainPlan) (p q : Progress) (old mid new last : Held) → mid ≡ old → last ≡ new → KeepsSending plan p q mid new → KeepsSending plan p q old last
handed plan p q old mid new last first same h = subst (λ (x : Held). KeepsSending plan p q x last) first (subst (KeepsSending plan p q mid) (sym same) h)

pub returns-in-Ok-clause-sends : goal.returns-in-Ok-clause-sends
returns-in-Ok-clause-sends c plan p at sent =
    let old = c.args.session.now in
    let t = c.try_close in
    let f : (x : Held) → x ≡ t.new.self.session.now → KeepsSending plan p (record p { asked = 2 }) old x =
    λ x e. handed plan p (record p { asked = 2 }) old c.in-Some.channel.session.now t.new.self.session.now x c.in-Some.ensures.same.0 e
    (closes-sends plan p c.in-Some.channel.session.now t.new.self.session.now c.in-Some.channel.at c.in-Some.ensures.same.1 at sent c.in-Ok.ensures.ok t.ensures.upright) in
    f _ (search rules)

pub returns-in-Err-NoMemory-clause-sends : goal.returns-in-Err-NoMemory-clause-sends
returns-in-Err-NoMemory-clause-sends c plan p at sent =
    let old = c.args.session.now in
    let t = c.try_close in
    let f : (x : Held) → x ≡ t.new.self.session.now → KeepsSending plan p p old x =
    λ x e. handed plan p p old c.in-Some.channel.session.now t.new.self.session.now x c.in-Some.ensures.same.0 e
    (still-sends plan p c.in-Some.channel.session.now t.new.self.session.now c.in-Err-NoMemory.ensures.err t.ensures.upright) in
    f _ (search rules)

pub returns-in-Err-Busy-clause-sends : goal.returns-in-Err-Busy-clause-sends
returns-in-Err-Busy-clause-sends c plan p at sent =
    let old = c.args.session.now in
    let t = c.try_close in
    let f : (x : Held) → x ≡ t.new.self.session.now → KeepsSending plan p p old x =
    λ x e. handed plan p p old c.in-Some.channel.session.now t.new.self.session.now x c.in-Some.ensures.same.0 e
    (still-sends plan p c.in-Some.channel.session.now t.new.self.session.now c.in-Err-Busy.ensures.err t.ensures.upright) in
    f _ (search rules)

pub returns-in-Ok-clause-scripted : goal.returns-in-Ok-clause-scripted
returns-in-Ok-clause-scripted c plan p at sent =
    let old = c.args.session.now in
    let t = c.try_close in
    let f : (x : Held) → x ≡ t.new.self.session.now → KeepsScripting plan p (record p { asked = 2 }) old x =
    λ x e. handed-scripted plan p (record p { asked = 2 }) old c.in-Some.channel.session.now t.new.self.session.now x c.in-Some.ensures.same.0 e
    (closes-scripts plan p c.in-Some.channel.session.now t.new.self.session.now c.in-Some.channel.at c.in-Some.ensures.same.1 at sent c.in-Ok.ensures.ok t.ensures.upright) in
    f _ (search rules)

pub returns-in-Err-NoMemory-clause-scripted : goal.returns-in-Err-NoMemory-clause-scripted
returns-in-Err-NoMemory-clause-scripted c plan p at sent =
    let old = c.args.session.now in
    let t = c.try_close in
    let f : (x : Held) → x ≡ t.new.self.session.now → KeepsScripting plan p p old x =
    λ x e. handed-scripted plan p p old c.in-Some.channel.session.now t.new.self.session.now x c.in-Some.ensures.same.0 e
    (still-scripts plan p c.in-Some.channel.session.now t.new.self.session.now c.in-Err-NoMemory.ensures.err t.ensures.upright) in
    f _ (search rules)

pub returns-in-Err-Busy-clause-scripted : goal.returns-in-Err-Busy-clause-scripted
returns-in-Err-Busy-clause-scripted c plan p at sent =
    let old = c.args.session.now in
    let t = c.try_close in
    let f : (x : Held) → x ≡ t.new.self.session.now → KeepsScripting plan p p old x =
    λ x e. handed-scripted plan p p old c.in-Some.channel.session.now t.new.self.session.now x c.in-Some.ensures.same.0 e
    (still-scripts plan p c.in-Some.channel.session.now t.new.self.session.now c.in-Err-Busy.ensures.err t.ensures.upright) in
    f _ (search rules)

pub returns-in_default-clause-given : goal.returns-in_default-clause-given
returns-in_default-clause-given c plan p log s at going there =
    let old = c.args.session.now in
    let none : is_some c.open_channel.result ≡ false = ap is_some c.in_default.is in
    absurd (let h : false ≡ true = sym none ∙ c.open_channel.ensures.some ∙ opens plan p old log s at going there in cc)

pub returns-in-Ok-clause-asking : goal.returns-in-Ok-clause-asking
returns-in-Ok-clause-asking c plan p log d s at sent taken asked yes_given =
    let old = c.args.session.now in
    let t = c.try_close in
    let f : (x : Held) → x ≡ t.new.self.session.now → AsksOn plan x log =
    λ x e. closes-asking plan p old c.in-Some.channel.session.now t.new.self.session.now x c.in-Some.ensures.same.0 e c.in-Some.channel.at c.in-Some.ensures.same.1 c.in-Ok.ensures.ok t.ensures.upright
    log d s at sent taken asked in
    f _ (search rules)

pub returns-in-Err-Busy-clause-given : goal.returns-in-Err-Busy-clause-given
returns-in-Err-Busy-clause-given c plan p log s at going there =
    absurd (some-none (unrefused-close plan p c.args.session.now c.in-Some.channel.session.now c.in-Some.channel.at log c.in-Some.ensures.same.0 c.in-Some.ensures.same.1 s)
    (c.in-Err-Busy.ensures.refused (λ e. busy-apart _ (sym c.in-Err-Busy.field-0-is ∙ e))))

pub returns-in-Err-TooManyAsked-clause-given : goal.returns-in-Err-TooManyAsked-clause-given
returns-in-Err-TooManyAsked-clause-given c plan p log s at going there =
    absurd (some-none (unrefused-close plan p c.args.session.now c.in-Some.channel.session.now c.in-Some.channel.at log c.in-Some.ensures.same.0 c.in-Some.ensures.same.1 s)
    (c.in-Err-TooManyAsked.ensures.refused (λ e. many-apart (sym c.in-Err-TooManyAsked.field-0-is ∙ e))))

pub returns-in-Err-TooManyAsked-clause-sends : goal.returns-in-Err-TooManyAsked-clause-sends
returns-in-Err-TooManyAsked-clause-sends c plan p at sent =
    let old = c.args.session.now in
    let t = c.try_close in
    let f : (x : Held) → x ≡ t.new.self.session.now → KeepsSending plan p p old x =
    λ x e. handed plan p p old c.in-Some.channel.session.now t.new.self.session.now x c.in-Some.ensures.same.0 e
    (still-sends plan p c.in-Some.channel.session.now t.new.self.session.now c.in-Err-TooManyAsked.ensures.err t.ensures.upright) in
    f _ (search rules)

pub returns-in-Err-TooManyAsked-clause-scripted : goal.returns-in-Err-TooManyAsked-clause-scripted
returns-in-Err-TooManyAsked-clause-scripted c plan p at sent =
    let old = c.args.session.now in
    let t = c.try_close in
    let f : (x : Held) → x ≡ t.new.self.session.now → KeepsScripting plan p p old x =
    λ x e. handed-scripted plan p p old c.in-Some.channel.session.now t.new.self.session.now x c.in-Some.ensures.same.0 e
    (still-scripts plan p c.in-Some.channel.session.now t.new.self.session.now c.in-Err-TooManyAsked.ensures.err t.ensures.upright) in
    f _ (search rules)
