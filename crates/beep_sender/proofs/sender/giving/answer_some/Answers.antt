-- Lines are answered from the next on, and after the last the answers are ended.
use Rattle.std.proofs.Common.{◌≡◌, ◌∙◌, ◌≤◌, List, ℕ, length, true, false, refl, sym, subst, arith, rules}
use Rattle.std.proofs.lemmas.Bool.Decides.{nat_tests}
use Rattle.beep_steps.specs.beep_session.specs.Session.{Held}
use Rattle.beep_steps.specs.Sending.{SendsOn, at_next}
use Rattle.beep_steps.proofs.CallSends.{still-sends}
use Rattle.beep_sender.proofs.SenderLemmas.{at-same, gone-sends}
use Rattle.beep_steps.specs.Scripting.{ScriptedOn}
use Rattle.beep_steps.proofs.CallScripts.{still-scripts}
use Rattle.beep_sender.proofs.ScriptedLemmas.{at-same-scripted, gone-scripts}
use Rattle.std.specs.Prelude.{[]}
use Rattle.beep_steps.specs.beep_frame.specs.declared.kind.Kind.{Kind}
use Rattle.beep_steps.specs.beep_journal.proofs.MomentLemmas.{above-zero, positive}
use Rattle.beep_sender.specs.declared.sender.TheConstants.{CHANNEL}
use Rattle.beep_sender.specs.Asking.{AsksOn, KeepsAsking}
use Rattle.beep_sender.proofs.RestingLemmas.{full-as}
use Rattle.beep_steps.specs.Resting.{HasRepliedAt, HoldsStill, IsAwake, IsFullAt}
use Rattle.beep_steps.proofs.RestCalls.{none-owed, none-there, still-none}
use Rattle.beep_sender.proofs.AskingLemmas.{gone-asking, handed-asking, still-asking}
use Rattle.beep_sender.proofs.sender.giving.answer_some.Goals as goal

pub returns-then-not-is_open-clause-sends : goal.returns-then-not-is_open-clause-sends
returns-then-not-is_open-clause-sends c plan p lines at log s = at-same plan p c.args.next.now c.args.session.now log at s

pub returns-in_default-clause-sends : goal.returns-in_default-clause-sends
returns-in_default-clause-sends c plan p lines at log s =
    let none : c.owed.follows.lender-at-none ≡ c.args.session.now = search (rules, c.owed.follows.holds-at-none) in
    at-same plan p c.args.next.now c.owed.follows.lender-at-none log at (subst (λ (x : Held). SendsOn plan p x log) (sym none) s)

pub returns-in_err-give_lines-clause-sends : goal.returns-in_err-give_lines-clause-sends
returns-in_err-give_lines-clause-sends c plan p lines at log s =
    let now = c.give_lines.new.answering.session.now in
    let h : SendsOn plan (at_next c.give_lines.new.next p) now log =
    c.give_lines.ensures.sends plan p lines at (c.begun-answering.ensures.same.1 ∙ c.in-Some.ensures.same.1) log
    (subst (λ (x : Held). SendsOn plan p x log) (sym (c.begun-answering.ensures.same.0 ∙ c.in-Some.ensures.same.0)) s) in
    let f : (x : Held) → x ≡ now → SendsOn plan (at_next c.give_lines.new.next p) x log = λ x e. subst (λ (y : Held). SendsOn plan (at_next c.give_lines.new.next p) y log) (sym e) h in
    f _ (search rules)

pub returns-then-next-len-clause-sends : goal.returns-then-next-len-clause-sends
returns-then-next-len-clause-sends c plan p lines at log s =
    let now = c.give_lines.new.answering.session.now in
    let h : SendsOn plan (at_next c.give_lines.new.next p) now log =
    c.give_lines.ensures.sends plan p lines at (c.begun-answering.ensures.same.1 ∙ c.in-Some.ensures.same.1) log
    (subst (λ (x : Held). SendsOn plan p x log) (sym (c.begun-answering.ensures.same.0 ∙ c.in-Some.ensures.same.0)) s) in
    let f : (x : Held) → x ≡ now → SendsOn plan (at_next c.give_lines.new.next p) x log = λ x e. subst (λ (y : Held). SendsOn plan (at_next c.give_lines.new.next p) y log) (sym e) h in
    f _ (search rules)

pub returns-in-Ok-clause-sends : goal.returns-in-Ok-clause-sends
returns-in-Ok-clause-sends c plan p lines at log s =
    let one = c.begun-answering.ensures.same.1 ∙ c.in-Some.ensures.same.1 in
    let answering = c.give_lines.new.answering in
    let q = at_next c.give_lines.new.next p in
    let enough : length plan.lines ≤ c.give_lines.new.next =
    subst (λ (ls : List (List ℕ)). length ls ≤ c.give_lines.new.next) (sym lines) (omega (arith, c.len.ensures, c.if-next-len.false)) in
    let h : SendsOn plan q c.done.follows.lender-at-none log =
    gone-sends plan q c.done.result c.in-Ok.field-0 answering.at (c.give_lines.ensures.same.1 ∙ one) answering.session.now c.done.follows.lender-at-none answering.open enough c.in-Ok.is c.done.follows.holds-at-none log
    (c.give_lines.ensures.sends plan p lines at one log (subst (λ (x : Held). SendsOn plan p x log) (sym (c.begun-answering.ensures.same.0 ∙ c.in-Some.ensures.same.0)) s)) in
    let f : (x : Held) → x ≡ c.done.follows.lender-at-none → SendsOn plan q x log = λ x e. subst (λ (y : Held). SendsOn plan q y log) (sym e) h in
    f _ (search rules)

pub returns-in-Err-clause-sends : goal.returns-in-Err-clause-sends
returns-in-Err-clause-sends c plan p lines at log s =
    let one = c.begun-answering.ensures.same.1 ∙ c.in-Some.ensures.same.1 in
    let answering = c.give_lines.new.answering in
    let q = at_next c.give_lines.new.next p in
    let now = c.in-Err._answering.session.now in
    let h : SendsOn plan q now log =
    still-sends plan q answering.session.now now c.in-Err.ensures.same.0 c.in-Err.ensures.upright log
    (c.give_lines.ensures.sends plan p lines at one log (subst (λ (x : Held). SendsOn plan p x log) (sym (c.begun-answering.ensures.same.0 ∙ c.in-Some.ensures.same.0)) s)) in
    let f : (x : Held) → x ≡ now → SendsOn plan q x log = λ x e. subst (λ (y : Held). SendsOn plan q y log) (sym e) h in
    f _ (search rules)

pub returns-then-not-is_open-clause-scripted : goal.returns-then-not-is_open-clause-scripted
returns-then-not-is_open-clause-scripted c plan p lines at log s = at-same-scripted plan p c.args.next.now c.args.session.now log at s

pub returns-in_default-clause-scripted : goal.returns-in_default-clause-scripted
returns-in_default-clause-scripted c plan p lines at log s =
    let none : c.owed.follows.lender-at-none ≡ c.args.session.now = search (rules, c.owed.follows.holds-at-none) in
    at-same-scripted plan p c.args.next.now c.owed.follows.lender-at-none log at (subst (λ (x : Held). ScriptedOn plan p x log) (sym none) s)

pub returns-in_err-give_lines-clause-scripted : goal.returns-in_err-give_lines-clause-scripted
returns-in_err-give_lines-clause-scripted c plan p lines at log s =
    let now = c.give_lines.new.answering.session.now in
    let h : ScriptedOn plan (at_next c.give_lines.new.next p) now log =
    c.give_lines.ensures.scripted plan p lines at (c.begun-answering.ensures.same.1 ∙ c.in-Some.ensures.same.1) log
    (subst (λ (x : Held). ScriptedOn plan p x log) (sym (c.begun-answering.ensures.same.0 ∙ c.in-Some.ensures.same.0)) s) in
    let f : (x : Held) → x ≡ now → ScriptedOn plan (at_next c.give_lines.new.next p) x log = λ x e. subst (λ (y : Held). ScriptedOn plan (at_next c.give_lines.new.next p) y log) (sym e) h in
    f _ (search rules)

pub returns-then-next-len-clause-scripted : goal.returns-then-next-len-clause-scripted
returns-then-next-len-clause-scripted c plan p lines at log s =
    let now = c.give_lines.new.answering.session.now in
    let h : ScriptedOn plan (at_next c.give_lines.new.next p) now log =
    c.give_lines.ensures.scripted plan p lines at (c.begun-answering.ensures.same.1 ∙ c.in-Some.ensures.same.1) log
    (subst (λ (x : Held). ScriptedOn plan p x log) (sym (c.begun-answering.ensures.same.0 ∙ c.in-Some.ensures.same.0)) s) in
    let f : (x : Held) → x ≡ now → ScriptedOn plan (at_next c.give_lines.new.next p) x log = λ x e. subst (λ (y : Held). ScriptedOn plan (at_next c.give_lines.new.next p) y log) (sym e) h in
    f _ (search rules)

pub returns-in-Ok-clause-scripted : goal.returns-in-Ok-clause-scripted
returns-in-Ok-clause-scripted c plan p lines at log s =
    let one = c.begun-answering.ensures.same.1 ∙ c.in-Some.ensures.same.1 in
    let answering = c.give_lines.new.answering in
    let q = at_next c.give_lines.new.next p in
    let enough : length plan.lines ≤ c.give_lines.new.next =
    subst (λ (ls : List (List ℕ)). length ls ≤ c.give_lines.new.next) (sym lines) (omega (arith, c.len.ensures, c.if-next-len.false)) in
    let h : ScriptedOn plan q c.done.follows.lender-at-none log =
    gone-scripts plan q c.done.result c.in-Ok.field-0 answering.at (c.give_lines.ensures.same.1 ∙ one) answering.session.now c.done.follows.lender-at-none answering.open enough c.in-Ok.is c.done.follows.holds-at-none log
    (c.give_lines.ensures.scripted plan p lines at one log (subst (λ (x : Held). ScriptedOn plan p x log) (sym (c.begun-answering.ensures.same.0 ∙ c.in-Some.ensures.same.0)) s)) in
    let f : (x : Held) → x ≡ c.done.follows.lender-at-none → ScriptedOn plan q x log = λ x e. subst (λ (y : Held). ScriptedOn plan q y log) (sym e) h in
    f _ (search rules)

pub returns-in-Err-clause-scripted : goal.returns-in-Err-clause-scripted
returns-in-Err-clause-scripted c plan p lines at log s =
    let one = c.begun-answering.ensures.same.1 ∙ c.in-Some.ensures.same.1 in
    let answering = c.give_lines.new.answering in
    let q = at_next c.give_lines.new.next p in
    let now = c.in-Err._answering.session.now in
    let h : ScriptedOn plan q now log =
    still-scripts plan q answering.session.now now c.in-Err.ensures.same.0 c.in-Err.ensures.upright log
    (c.give_lines.ensures.scripted plan p lines at one log (subst (λ (x : Held). ScriptedOn plan p x log) (sym (c.begun-answering.ensures.same.0 ∙ c.in-Some.ensures.same.0)) s)) in
    let f : (x : Held) → x ≡ now → ScriptedOn plan q x log = λ x e. subst (λ (y : Held). ScriptedOn plan q y log) (sym e) h in
    f _ (search rules)

pub returns-in_default-clause-asking : goal.returns-in_default-clause-asking
returns-in_default-clause-asking c plan log a =
    let none : c.owed.follows.lender-at-none ≡ c.args.session.now = search (rules, c.owed.follows.holds-at-none) in
    subst (λ (x : Held). AsksOn plan x log) (sym none) a

pub returns-in_err-give_lines-clause-asking : goal.returns-in_err-give_lines-clause-asking
returns-in_err-give_lines-clause-asking c plan =
    let old = c.args.session.now in
    let now = c.give_lines.new.answering.session.now in
    let f : (x : Held) → x ≡ now → KeepsAsking plan old x =
    λ x e. handed-asking plan old _ now x (c.begun-answering.ensures.same.0 ∙ c.in-Some.ensures.same.0) e (c.give_lines.ensures.asking plan) in
    f _ (search rules)

pub returns-then-next-len-clause-asking : goal.returns-then-next-len-clause-asking
returns-then-next-len-clause-asking c plan =
    let old = c.args.session.now in
    let now = c.give_lines.new.answering.session.now in
    let f : (x : Held) → x ≡ now → KeepsAsking plan old x =
    λ x e. handed-asking plan old _ now x (c.begun-answering.ensures.same.0 ∙ c.in-Some.ensures.same.0) e (c.give_lines.ensures.asking plan) in
    f _ (search rules)

pub returns-in-Ok-clause-asking : goal.returns-in-Ok-clause-asking
returns-in-Ok-clause-asking c plan =
    let old = c.args.session.now in
    let answering = c.give_lines.new.answering in
    let k : KeepsAsking plan answering.session.now c.done.follows.lender-at-none =
    gone-asking plan answering.at (above-zero answering.at (positive answering.at answering.open.above)) Kind.Nul [] answering.session.now c.done.follows.lender-at-none c.done.result c.in-Ok.field-0 c.in-Ok.is c.done.follows.holds-at-none in
    let f : (x : Held) → x ≡ c.done.follows.lender-at-none → KeepsAsking plan old x =
    λ x e. handed-asking plan old _ c.done.follows.lender-at-none x (c.begun-answering.ensures.same.0 ∙ c.in-Some.ensures.same.0) e (λ log a. k log (c.give_lines.ensures.asking plan log a)) in
    f _ (search rules)

pub returns-in-Err-clause-asking : goal.returns-in-Err-clause-asking
returns-in-Err-clause-asking c plan =
    let old = c.args.session.now in
    let answering = c.give_lines.new.answering in
    let now = c.in-Err._answering.session.now in
    let k : KeepsAsking plan answering.session.now now = still-asking plan answering.session.now now c.in-Err.ensures.same.0 c.in-Err.ensures.upright in
    let f : (x : Held) → x ≡ now → KeepsAsking plan old x =
    λ x e. handed-asking plan old _ now x (c.begun-answering.ensures.same.0 ∙ c.in-Some.ensures.same.0) e (λ log a. k log (c.give_lines.ensures.asking plan log a)) in
    f _ (search rules)

-- ---- what it rests with

pub returns-then-not-is_open-clause-rests : goal.returns-then-not-is_open-clause-rests
returns-then-not-is_open-clause-rests c none short = (
  still-none c.args.session.now,
  λ awake. none-there CHANNEL c.args.session.now (c.is_open.ensures.shut refl awake c.if-not-is_open.true),
)

pub returns-in_default-clause-rests : goal.returns-in_default-clause-rests
returns-in_default-clause-rests c kept short =
    let none : c.owed.follows.lender-at-none ≡ c.args.session.now = search (rules, c.owed.follows.holds-at-none) in
    subst (λ (x : Held). HoldsStill c.args.session.now x × (IsAwake x → HasRepliedAt CHANNEL x)) (sym none)
    (still-none c.args.session.now, λ awake. none-owed CHANNEL c.args.session.now (search (rules, c.owed.ensures)))

pub returns-then-next-len-clause-rests : goal.returns-then-next-len-clause-rests
returns-then-next-len-clause-rests c kept short =
    let few : c.give_lines.new.next ≤ c.args.next.now = grind (arith, nat_tests, kept) in
    let old = c.args.session.now in
    let now = c.give_lines.new.answering.session.now in
    let number = c.begun-answering.ensures.same.1 ∙ c.in-Some.ensures.same.1 in
    let same = c.begun-answering.ensures.same.0 ∙ c.in-Some.ensures.same.0 in
    let full : IsFullAt CHANNEL old now =
    full-as _ _ old _ now number same
    (c.in_ok-give_lines.ensures.rests short few (omega (arith, c.len.ensures, c.if-next-len.true))) in
    let f : (x : Held) → x ≡ now → HoldsStill old x × (IsAwake x → HasRepliedAt CHANNEL x) =
    λ x e. subst (λ (y : Held). HoldsStill old y × (IsAwake y → HasRepliedAt CHANNEL y)) (sym e) (full.0, λ awake. full.1) in
    f _ (search rules)

pub returns-in-Ok-clause-rests : goal.returns-in-Ok-clause-rests
returns-in-Ok-clause-rests c none short = absurd (let h : true ≡ false = none in cc)
