-- Each line is the next, and its answer leaves a sender so much further.
use Rattle.std.proofs.Common.{◌≡◌, ◌∙◌, ◌<◌, ◌≤◌, Bool, List, ℕ, length, slice_get, Some, refl, sym, ap, subst, arith}
use Rattle.std.specs.Prelude.{Ok}
use Rattle.beep_steps.specs.Sending.{SendsOn, at_next, if_given}
use Rattle.beep_steps.specs.Scripting.{ScriptedOn}
use Rattle.beep_sender.proofs.ScriptedLemmas.{at-same-scripted}
use Rattle.beep_steps.specs.prof_raw.specs.declared.line.TheConstants.{ENTRY_MAX}
use Rattle.beep_sender.proofs.GivesLemmas.{within-of}
use Rattle.beep_sender.proofs.RestingLemmas.{full-as}
use Rattle.beep_sender.proofs.SenderLemmas.{at-same}
use Rattle.beep_sender.proofs.sender.giving.give_lines.Goals as goal

pub loop-next-init : goal.loop-next-init
loop-next-init c = record {
  same = refl;
  number = refl;
  terms = refl;
  sends = λ plan p lines at is log s. at-same plan p c.args.next.now c.args.answering.now.session.now log at s;
  scripted = λ plan p lines at is log s. at-same-scripted plan p c.args.next.now c.args.answering.now.session.now log at s;
  asking = λ plan log a. a;
  from = omega arith;
  still = λ same. refl;
}

pub returns-in_err-give_line-clause-sends : goal.returns-in_err-give_line-clause-sends
returns-in_err-give_line-clause-sends c plan p lines at is log s =
    let i = c.loop-next.invariant in
    let line : slice_get plan.lines c.loop-next.next ≡ Some c.in-Some.line.now = ap (λ (ls : List (List ℕ)). slice_get ls c.loop-next.next) lines ∙ sym c.in-Some.ensures in
    c.in_err-give_line.ensures.sends plan (at_next c.loop-next.next p) line (i.number ∙ is) log (i.sends plan p lines at is log s)

pub returns-then-not-branch-clause-sends : goal.returns-then-not-branch-clause-sends
returns-then-not-branch-clause-sends c plan p lines at is log s =
    let i = c.loop-next.invariant in
    let line : slice_get plan.lines c.loop-next.next ≡ Some c.in-Some.line.now = ap (λ (ls : List (List ℕ)). slice_get ls c.loop-next.next) lines ∙ sym c.in-Some.ensures in
    let q = at_next c.loop-next.next p in
    subst (λ (b : Bool). SendsOn plan (if_given (Ok b) q) c.give_line.new.answering.session.now log) c.if-not-branch.true
    (c.in_ok-give_line.ensures.sends plan q line (i.number ∙ is) log (i.sends plan p lines at is log s))

pub returns-in_err-give_line-clause-scripted : goal.returns-in_err-give_line-clause-scripted
returns-in_err-give_line-clause-scripted c plan p lines at is log s =
    let i = c.loop-next.invariant in
    let line : slice_get plan.lines c.loop-next.next ≡ Some c.in-Some.line.now = ap (λ (ls : List (List ℕ)). slice_get ls c.loop-next.next) lines ∙ sym c.in-Some.ensures in
    c.in_err-give_line.ensures.scripted plan (at_next c.loop-next.next p) line (i.number ∙ is) log (i.scripted plan p lines at is log s)

pub returns-then-not-branch-clause-scripted : goal.returns-then-not-branch-clause-scripted
returns-then-not-branch-clause-scripted c plan p lines at is log s =
    let i = c.loop-next.invariant in
    let line : slice_get plan.lines c.loop-next.next ≡ Some c.in-Some.line.now = ap (λ (ls : List (List ℕ)). slice_get ls c.loop-next.next) lines ∙ sym c.in-Some.ensures in
    let q = at_next c.loop-next.next p in
    subst (λ (b : Bool). ScriptedOn plan (if_given (Ok b) q) c.give_line.new.answering.session.now log) c.if-not-branch.true
    (c.in_ok-give_line.ensures.scripted plan q line (i.number ∙ is) log (i.scripted plan p lines at is log s))

pub overflow_add-next : goal.overflow_add-next
overflow_add-next c =
    let within : c.loop-next.next < length c.args.lines.now = within-of c.args.lines.now c.loop-next.next c.in-Some.line.now (sym c.in-Some.ensures) in
    omega (arith, within, c.len.ensures, c.len.type_inv)

pub loop-next-preserved : goal.loop-next-preserved
loop-next-preserved c =
    let i = c.loop-next.invariant in
    record {
      same = c.give_line.ensures.same.0 ∙ i.same;
      number = c.give_line.ensures.same.1 ∙ i.number;
      terms = c.give_line.ensures.terms ∙ i.terms;
      sends = λ plan p lines at is log s.
          let line : slice_get plan.lines c.loop-next.next ≡ Some c.in-Some.line.now = ap (λ (ls : List (List ℕ)). slice_get ls c.loop-next.next) lines ∙ sym c.in-Some.ensures in
          let q = at_next c.loop-next.next p in
          subst (λ (b : Bool). SendsOn plan (if_given (Ok b) q) c.give_line.new.answering.session.now log) c.if-not-branch.false
          (c.in_ok-give_line.ensures.sends plan q line (i.number ∙ is) log (i.sends plan p lines at is log s));
      scripted = λ plan p lines at is log s.
          let line : slice_get plan.lines c.loop-next.next ≡ Some c.in-Some.line.now = ap (λ (ls : List (List ℕ)). slice_get ls c.loop-next.next) lines ∙ sym c.in-Some.ensures in
          let q = at_next c.loop-next.next p in
          subst (λ (b : Bool). ScriptedOn plan (if_given (Ok b) q) c.give_line.new.answering.session.now log) c.if-not-branch.false
          (c.in_ok-give_line.ensures.scripted plan q line (i.number ∙ is) log (i.scripted plan p lines at is log s));
      asking = λ plan log a. c.give_line.ensures.asking plan log (i.asking plan log a);
      from = omega (arith, i.from);
      still = λ few. absurd (omega (arith, i.from, few));
    }

pub returns-in_err-give_line-clause-asking : goal.returns-in_err-give_line-clause-asking
returns-in_err-give_line-clause-asking c plan log a = c.give_line.ensures.asking plan log (c.loop-next.invariant.asking plan log a)

pub returns-then-not-branch-clause-asking : goal.returns-then-not-branch-clause-asking
returns-then-not-branch-clause-asking c plan log a = c.give_line.ensures.asking plan log (c.loop-next.invariant.asking plan log a)

-- the first line found no room, where none did
pub returns-then-not-branch-clause-rests : goal.returns-then-not-branch-clause-rests
returns-then-not-branch-clause-rests c short few some =
    let i = c.loop-next.invariant in
    let small : length c.in-Some.line.now ≤ ENTRY_MAX = short c.loop-next.next c.in-Some.line.now (sym c.in-Some.ensures) in
    full-as c.args.answering.now.at _ c.args.answering.now.session.now _ c.give_line.new.answering.session.now i.number (i.still few) (c.in_ok-give_line.ensures.rests c.if-not-branch.true small)

pub returns-clause-rests : goal.returns-clause-rests
returns-clause-rests c short few some = absurd (omega (arith, some, c.len.ensures, c.loop-next-test.false))
