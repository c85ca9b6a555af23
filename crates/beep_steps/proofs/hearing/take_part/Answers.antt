-- A part that is taken leaves what the session stands for.
use Rattle.std.proofs.Common.{◌≡◌, ◌∙◌, true, false, [], sym, subst, rules}
use Rattle.std.specs.Prelude.{IfSome}
use Rattle.beep_session.specs.Session.{Held}
use Rattle.beep_steps.specs.Logs.{StaysOn}
use Rattle.beep_steps.specs.Steps.{TookMost, TookPart}
use Rattle.beep_steps.proofs.PartLemmas.{most-taken, none-waits, some-part}
use Rattle.beep_steps.specs.Sending.{KeepsSending}
use Rattle.beep_steps.proofs.CallLemmas.{took-stays}
use Rattle.beep_steps.specs.Scripting.{KeepsScripting}
use Rattle.beep_steps.proofs.CallScripts.{took-scripts}
use Rattle.beep_steps.proofs.CallSends.{took-sends}
use Rattle.beep_steps.proofs.ServeCalls.{took-serves}
use Rattle.beep_steps.specs.Serving.{KeepsServing}
use Rattle.beep_steps.specs.Speaking.{KeepsSpeaking}
use Rattle.beep_steps.proofs.SpeakCalls.{took-speaking}
use Rattle.beep_steps.specs.Desking.{DesksWithin}
use Rattle.beep_steps.proofs.DeskAnswers.{took-desk}
use Rattle.beep_steps.proofs.DeskSends.{took-asking}
use Rattle.beep_steps.proofs.ServeLemmas.{shows-served}
use Rattle.beep_steps.proofs.hearing.take_part.Goals as goal

pub returns-in-Some-clause-stays : goal.returns-in-Some-clause-stays
returns-in-Some-clause-stays c =
    let k = c.in-Some in
    let t = c.take in
    let h : StaysOn c.args.session.now t.new.self.session.now =
    took-stays t.result k.channel.at t.new.buf c.args.session.now k.channel.session.now t.new.self.session.now k.ensures.same.0 t.ensures.some t.ensures.upright t.ensures.kept in
    let f : (x : Held) → x ≡ t.new.self.session.now → StaysOn c.args.session.now x = λ x e. subst (StaysOn c.args.session.now) (sym e) h in
    f _ (search rules)

pub returns-in-Some-closing_channel-clause-stays : goal.returns-in-Some-closing_channel-clause-stays
returns-in-Some-closing_channel-clause-stays c =
    let k = c.in-Some-closing_channel in
    let t = c.take-in-Some-closing_channel in
    let h : StaysOn c.open_channel.follows.lender-at-none t.new.self.session.now =
    took-stays t.result k.channel.at t.new.buf c.open_channel.follows.lender-at-none k.channel.session.now t.new.self.session.now k.ensures.same.0 t.ensures.some t.ensures.upright t.ensures.kept in
    let none : c.open_channel.follows.lender-at-none ≡ c.args.session.now = search (rules, c.open_channel.follows.holds-at-none) in
    let f : (x : Held) → x ≡ t.new.self.session.now → StaysOn c.args.session.now x =
    λ x e. subst (λ (y : Held). StaysOn y x) none (subst (StaysOn c.open_channel.follows.lender-at-none) (sym e) h) in
    f _ (search rules)

pub returns-in-Some-clause-serving : goal.returns-in-Some-clause-serving
returns-in-Some-clause-serving c plan =
    let k = c.in-Some in
    let t = c.take in
    let h : KeepsServing plan c.args.session.now t.new.self.session.now =
    took-serves plan t.result k.channel.at t.new.buf c.args.session.now k.channel.session.now t.new.self.session.now k.ensures.same.0 t.ensures.some t.ensures.upright t.ensures.kept in
    let f : (x : Held) → x ≡ t.new.self.session.now → KeepsServing plan c.args.session.now x = λ x e. subst (KeepsServing plan c.args.session.now) (sym e) h in
    f _ (search rules)

pub returns-in-Some-closing_channel-clause-serving : goal.returns-in-Some-closing_channel-clause-serving
returns-in-Some-closing_channel-clause-serving c plan =
    let k = c.in-Some-closing_channel in
    let t = c.take-in-Some-closing_channel in
    let h : KeepsServing plan c.open_channel.follows.lender-at-none t.new.self.session.now =
    took-serves plan t.result k.channel.at t.new.buf c.open_channel.follows.lender-at-none k.channel.session.now t.new.self.session.now k.ensures.same.0 t.ensures.some t.ensures.upright t.ensures.kept in
    let none : c.open_channel.follows.lender-at-none ≡ c.args.session.now = search (rules, c.open_channel.follows.holds-at-none) in
    let f : (x : Held) → x ≡ t.new.self.session.now → KeepsServing plan c.args.session.now x =
    λ x e. subst (λ (y : Held). KeepsServing plan y x) none (subst (KeepsServing plan c.open_channel.follows.lender-at-none) (sym e) h) in
    f _ (search rules)

pub returns-in-Some-clause-sending : goal.returns-in-Some-clause-sending
returns-in-Some-clause-sending c plan p =
    let k = c.in-Some in
    let t = c.take in
    let h : KeepsSending plan p p c.args.session.now t.new.self.session.now =
    took-sends plan p t.result k.channel.at t.new.buf c.args.session.now k.channel.session.now t.new.self.session.now k.ensures.same.0 t.ensures.some t.ensures.upright t.ensures.kept in
    let f : (x : Held) → x ≡ t.new.self.session.now → KeepsSending plan p p c.args.session.now x = λ x e. subst (KeepsSending plan p p c.args.session.now) (sym e) h in
    f _ (search rules)

pub returns-in-Some-closing_channel-clause-sending : goal.returns-in-Some-closing_channel-clause-sending
returns-in-Some-closing_channel-clause-sending c plan p =
    let k = c.in-Some-closing_channel in
    let t = c.take-in-Some-closing_channel in
    let h : KeepsSending plan p p c.open_channel.follows.lender-at-none t.new.self.session.now =
    took-sends plan p t.result k.channel.at t.new.buf c.open_channel.follows.lender-at-none k.channel.session.now t.new.self.session.now k.ensures.same.0 t.ensures.some t.ensures.upright t.ensures.kept in
    let none : c.open_channel.follows.lender-at-none ≡ c.args.session.now = search (rules, c.open_channel.follows.holds-at-none) in
    let f : (x : Held) → x ≡ t.new.self.session.now → KeepsSending plan p p c.args.session.now x =
    λ x e. subst (λ (y : Held). KeepsSending plan p p y x) none (subst (KeepsSending plan p p c.open_channel.follows.lender-at-none) (sym e) h) in
    f _ (search rules)

pub returns-in-Some-clause-scripted : goal.returns-in-Some-clause-scripted
returns-in-Some-clause-scripted c plan p =
    let k = c.in-Some in
    let t = c.take in
    let h : KeepsScripting plan p p c.args.session.now t.new.self.session.now =
    took-scripts plan p t.result k.channel.at t.new.buf c.args.session.now k.channel.session.now t.new.self.session.now k.ensures.same.0 t.ensures.some t.ensures.upright t.ensures.kept in
    let f : (x : Held) → x ≡ t.new.self.session.now → KeepsScripting plan p p c.args.session.now x = λ x e. subst (KeepsScripting plan p p c.args.session.now) (sym e) h in
    f _ (search rules)

pub returns-in-Some-closing_channel-clause-scripted : goal.returns-in-Some-closing_channel-clause-scripted
returns-in-Some-closing_channel-clause-scripted c plan p =
    let k = c.in-Some-closing_channel in
    let t = c.take-in-Some-closing_channel in
    let h : KeepsScripting plan p p c.open_channel.follows.lender-at-none t.new.self.session.now =
    took-scripts plan p t.result k.channel.at t.new.buf c.open_channel.follows.lender-at-none k.channel.session.now t.new.self.session.now k.ensures.same.0 t.ensures.some t.ensures.upright t.ensures.kept in
    let none : c.open_channel.follows.lender-at-none ≡ c.args.session.now = search (rules, c.open_channel.follows.holds-at-none) in
    let f : (x : Held) → x ≡ t.new.self.session.now → KeepsScripting plan p p c.args.session.now x =
    λ x e. subst (λ (y : Held). KeepsScripting plan p p y x) none (subst (KeepsScripting plan p p c.open_channel.follows.lender-at-none) (sym e) h) in
    f _ (search rules)

-- the marks of a part are the first that are untaken
pub returns-in-Some-clause-part : goal.returns-in-Some-clause-part
returns-in-Some-clause-part c log left s above u =
    let k = c.in-Some in
    let t = c.take in
    let now : (x : Held) → x ≡ t.new.self.session.now → IfSome t.result (λ part. TookPart c.args.number part t.new.buf left x) =
    λ x e. subst (λ (y : Held). IfSome t.result (λ part. TookPart c.args.number part t.new.buf left y)) (sym e)
    (some-part c.args.number k.channel.at t.result c.args.buf.now t.new.buf c.args.session.now k.channel.session.now t.new.self.session.now log s above k.ensures.same.0 k.ensures.same.1
    t.ensures.some t.ensures.part c.requires.some left u) in
    now _ (search rules)

pub returns-in-Some-closing_channel-clause-part : goal.returns-in-Some-closing_channel-clause-part
returns-in-Some-closing_channel-clause-part c log left s above u =
    let k = c.in-Some-closing_channel in
    let t = c.take-in-Some-closing_channel in
    let same : k.channel.session.now ≡ c.args.session.now = k.ensures.same.0 ∙ none-is in
    let now : (x : Held) → x ≡ t.new.self.session.now → IfSome t.result (λ part. TookPart c.args.number part t.new.buf left x) =
    λ x e. subst (λ (y : Held). IfSome t.result (λ part. TookPart c.args.number part t.new.buf left y)) (sym e)
    (some-part c.args.number k.channel.at t.result c.args.buf.now t.new.buf c.args.session.now k.channel.session.now t.new.self.session.now log s above same k.ensures.same.1
    t.ensures.some t.ensures.part c.requires.some left u) in
    now _ (search rules)
  where
    none-is : c.open_channel.follows.lender-at-none ≡ c.args.session.now
    none-is = search (rules, c.open_channel.follows.holds-at-none)

pub returns-then-zero_waits-clause-none : goal.returns-then-zero_waits-clause-none
returns-then-zero_waits-clause-none c log s going above =
    absurd (let h : true ≡ false = sym c.if-zero_waits.true ∙ c.zero_waits.ensures ∙ none-waits c.args.session.now log s in cc)

pub returns-in-Some-clause-speaking : goal.returns-in-Some-clause-speaking
returns-in-Some-clause-speaking c plan notes =
    let k = c.in-Some in
    let t = c.take in
    let h : KeepsSpeaking plan notes notes c.args.session.now t.new.self.session.now =
    took-speaking plan notes t.result k.channel.at t.new.buf c.args.session.now k.channel.session.now t.new.self.session.now k.ensures.same.0 t.ensures.some t.ensures.upright t.ensures.kept in
    let f : (x : Held) → x ≡ t.new.self.session.now → KeepsSpeaking plan notes notes c.args.session.now x = λ x e. subst (KeepsSpeaking plan notes notes c.args.session.now) (sym e) h in
    f _ (search rules)

pub returns-in-Some-closing_channel-clause-speaking : goal.returns-in-Some-closing_channel-clause-speaking
returns-in-Some-closing_channel-clause-speaking c plan notes =
    let k = c.in-Some-closing_channel in
    let t = c.take-in-Some-closing_channel in
    let h : KeepsSpeaking plan notes notes c.open_channel.follows.lender-at-none t.new.self.session.now =
    took-speaking plan notes t.result k.channel.at t.new.buf c.open_channel.follows.lender-at-none k.channel.session.now t.new.self.session.now k.ensures.same.0 t.ensures.some t.ensures.upright t.ensures.kept in
    let none : c.open_channel.follows.lender-at-none ≡ c.args.session.now = search (rules, c.open_channel.follows.holds-at-none) in
    let f : (x : Held) → x ≡ t.new.self.session.now → KeepsSpeaking plan notes notes c.args.session.now x =
    λ x e. subst (λ (y : Held). KeepsSpeaking plan notes notes y x) none (subst (KeepsSpeaking plan notes notes c.open_channel.follows.lender-at-none) (sym e) h) in
    f _ (search rules)

pub returns-in-Some-clause-desk : goal.returns-in-Some-clause-desk
returns-in-Some-clause-desk c plan notes log serves s d =
    let k = c.in-Some in
    let t = c.take in
    let h : DesksWithin plan t.new.self.session.now log =
    took-desk plan notes t.result k.channel.at t.new.buf c.args.session.now k.channel.session.now t.new.self.session.now k.ensures.same.0 t.ensures.some t.ensures.stuck t.ensures.upright
    t.ensures.kept log (shows-served plan c.args.session.now [] log serves) s d in
    let f : (x : Held) → x ≡ t.new.self.session.now → DesksWithin plan x log = λ x e. subst (λ (y : Held). DesksWithin plan y log) (sym e) h in
    f _ (search rules)

pub returns-in-Some-closing_channel-clause-desk : goal.returns-in-Some-closing_channel-clause-desk
returns-in-Some-closing_channel-clause-desk c plan notes log serves s d =
    let k = c.in-Some-closing_channel in
    let t = c.take-in-Some-closing_channel in
    let none : c.open_channel.follows.lender-at-none ≡ c.args.session.now = search (rules, c.open_channel.follows.holds-at-none) in
    let h : DesksWithin plan t.new.self.session.now log =
    took-desk plan notes t.result k.channel.at t.new.buf c.args.session.now k.channel.session.now t.new.self.session.now (k.ensures.same.0 ∙ none) t.ensures.some t.ensures.stuck t.ensures.upright
    t.ensures.kept log (shows-served plan c.args.session.now [] log serves) s d in
    let f : (x : Held) → x ≡ t.new.self.session.now → DesksWithin plan x log = λ x e. subst (λ (y : Held). DesksWithin plan y log) (sym e) h in
    f _ (search rules)

pub returns-then-zero_waits-clause-desk : goal.returns-then-zero_waits-clause-desk
returns-then-zero_waits-clause-desk c plan notes log serves s d = d

pub returns-clause-desk : goal.returns-clause-desk
returns-clause-desk c plan notes log serves s d =
    let one : c.open_channel.follows.lender-at-none ≡ c.args.session.now = search (rules, c.open_channel.follows.holds-at-none) in
    let two : c.closing_channel.follows.lender-at-none ≡ c.open_channel.follows.lender-at-none = search (rules, c.closing_channel.follows.holds-at-none) in
    subst (λ (y : Held). DesksWithin plan y log) (sym (two ∙ one)) d

pub returns-in-Some-clause-asking : goal.returns-in-Some-clause-asking
returns-in-Some-clause-asking c plan p log s d =
    let k = c.in-Some in
    let t = c.take in
    let h : DesksWithin plan t.new.self.session.now log =
    took-asking plan p t.result k.channel.at t.new.buf c.args.session.now k.channel.session.now t.new.self.session.now k.ensures.same.0 t.ensures.some t.ensures.stuck t.ensures.upright
    t.ensures.kept log s d in
    let f : (x : Held) → x ≡ t.new.self.session.now → DesksWithin plan x log = λ x e. subst (λ (y : Held). DesksWithin plan y log) (sym e) h in
    f _ (search rules)

pub returns-in-Some-closing_channel-clause-asking : goal.returns-in-Some-closing_channel-clause-asking
returns-in-Some-closing_channel-clause-asking c plan p log s d =
    let k = c.in-Some-closing_channel in
    let t = c.take-in-Some-closing_channel in
    let none : c.open_channel.follows.lender-at-none ≡ c.args.session.now = search (rules, c.open_channel.follows.holds-at-none) in
    let h : DesksWithin plan t.new.self.session.now log =
    took-asking plan p t.result k.channel.at t.new.buf c.args.session.now k.channel.session.now t.new.self.session.now (k.ensures.same.0 ∙ none) t.ensures.some t.ensures.stuck t.ensures.upright
    t.ensures.kept log s d in
    let f : (x : Held) → x ≡ t.new.self.session.now → DesksWithin plan x log = λ x e. subst (λ (y : Held). DesksWithin plan y log) (sym e) h in
    f _ (search rules)

pub returns-then-zero_waits-clause-asking : goal.returns-then-zero_waits-clause-asking
returns-then-zero_waits-clause-asking c plan p log s d = d

pub returns-clause-asking : goal.returns-clause-asking
returns-clause-asking c plan p log s d =
    let one : c.open_channel.follows.lender-at-none ≡ c.args.session.now = search (rules, c.open_channel.follows.holds-at-none) in
    let two : c.closing_channel.follows.lender-at-none ≡ c.open_channel.follows.lender-at-none = search (rules, c.closing_channel.follows.holds-at-none) in
    subst (λ (y : Held). DesksWithin plan y log) (sym (two ∙ one)) d

pub returns-in-Some-clause-most : goal.returns-in-Some-clause-most
returns-in-Some-clause-most c =
    let k = c.in-Some in
    let t = c.take in
    let f : (x : Held) → x ≡ t.new.self.session.now → IfSome t.result (λ part. TookMost c.args.number part c.args.buf.now t.new.buf c.args.session.now x) =
    λ x e. subst (λ (y : Held). IfSome t.result (λ part. TookMost c.args.number part c.args.buf.now t.new.buf c.args.session.now y)) (sym e)
    (most-taken t.result c.args.number k.channel.at c.args.buf.now t.new.buf c.args.session.now k.channel.session.now t.new.self.session.now k.ensures.same.1 k.ensures.same.0 t.ensures.part) in
    f _ (search rules)

pub returns-in-Some-closing_channel-clause-most : goal.returns-in-Some-closing_channel-clause-most
returns-in-Some-closing_channel-clause-most c =
    let k = c.in-Some-closing_channel in
    let t = c.take-in-Some-closing_channel in
    let none : c.open_channel.follows.lender-at-none ≡ c.args.session.now = search (rules, c.open_channel.follows.holds-at-none) in
    let f : (x : Held) → x ≡ t.new.self.session.now → IfSome t.result (λ part. TookMost c.args.number part c.args.buf.now t.new.buf c.args.session.now x) =
    λ x e. subst (λ (y : Held). IfSome t.result (λ part. TookMost c.args.number part c.args.buf.now t.new.buf c.args.session.now y)) (sym e)
    (most-taken t.result c.args.number k.channel.at c.args.buf.now t.new.buf c.args.session.now k.channel.session.now t.new.self.session.now k.ensures.same.1 (k.ensures.same.0 ∙ none) t.ensures.part) in
    f _ (search rules)
