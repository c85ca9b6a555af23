use Rattle.std.proofs.Common.{◌≡◌, ◌≤◌, ◌+◌, ◌++◌, ◌∙◌, sym, subst, refl, length, arith, drop, length-drop, ap}
use Rattle.std.proofs.lemmas.List.{take_rest}
use Rattle.beep_schedule.specs.Schedule.{event_line}
use Rattle.beep_schedule.specs.Refused.{line_of}
use Rattle.beep_schedule.proofs.TextLemmas.{Read, read_first, read_more, bad_first, bad_line}
use Rattle.beep_schedule.proofs.read.read_schedule.Goals as goal

pub returns-then-not-starts_with-clause-refused : goal.returns-then-not-starts_with-clause-refused
returns-then-not-starts_with-clause-refused c =
    bad_first c.args.text.now (sym c.starts_with.ensures.value ∙ c.if-not-starts_with.true)

pub loop-i-init : goal.loop-i-init
loop-i-init c =
    subst (λ events. Read c.args.text.now 16 2 events) (sym c.new-schedule.ensures) (read_first c.args.text.now (sym c.starts_with.ensures.value ∙ c.if-not-starts_with.false))

pub returns-in_default-clause-refused : goal.returns-in_default-clause-refused
returns-in_default-clause-refused c =
    bad_line c.args.text.now c.loop-i.i c.loop-i.number c.loop-i.schedule c.loop-i-test.true c.loop-i.invariant (λ e is h. c.in_default.ensures.none refl e is (ap line_of (take_rest c.args.text.now c.loop-i.i) ∙ h))

pub loop-i-preserved : goal.loop-i-preserved
loop-i-preserved c =
    let text = c.args.text.now in
    let i = c.loop-i.i in
    let rest = take_rest text i in
    let within : c.in-Some.line.len ≤ length (drop i text) = subst (λ xs. c.in-Some.line.len ≤ length xs) rest c.in-Some.ensures.within.1 in
    let line : drop i text ≡ event_line c.in-Some.line.event ++ drop c.in-Some.line.len (drop i text) = subst (λ xs. xs ≡ event_line c.in-Some.line.event ++ drop c.in-Some.line.len xs) rest c.in-Some.ensures.some.1 in
    subst (λ events. Read text (i + c.in-Some.line.len) (c.loop-i.number + 1) events) (sym c.in-Ok.ensures.ok)
    (read_more text i c.loop-i.number c.in-Some.line.len c.loop-i.schedule c.in-Some.line.event c.loop-i.invariant c.in-Some.ensures.some.0 line c.in-Some.ensures.within.0 (omega (arith, within, length-drop i text)))
