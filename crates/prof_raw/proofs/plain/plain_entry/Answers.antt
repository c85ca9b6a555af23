-- What ends the octets that are written as they are is the body's end.
use Rattle.std.proofs.Common.{◌≡◌, ◌==◌, ◌-◌, true, false, length, drop, get_or, sym, subst, ap, ◌∙◌, arith}
use Rattle.std.proofs.lemmas.Bool.Decides.{nat_tests}
use Rattle.prof_raw.proofs.PlainEntryLemmas.{plain-body, plain-ends, plain-first, plain-len, plain-line-end, plain-lines}
use Rattle.prof_raw.specs.Walk.{begins_with_end}
use Rattle.memchr.specs.Find.{is_byte3}
use Rattle.prof_raw.proofs.plain.plain_entry.Goals.{then-end-eq0-via-then-end-eq0, then-end-eq0-via-else-end-eq0+then-end-gt-ENTRY_MAX, then-end-eq0-via-else-end-eq0+else-end-gt-ENTRY_MAX+then-body-eq33, then-body-end-ne2-via-then-body-end-ne2, then-body-end-ne2-via-else-body-end-ne2+then-not-is_line_end}
use Rattle.prof_raw.proofs.plain.plain_entry.Goals as goal

pub returns-clause-line : goal.returns-clause-line
returns-clause-line c =
    let end = c.plain_end-end.ensures in
    let zero = c.if-end-eq0.false in
    let most = c.if-end-gt-ENTRY_MAX.false in
    let first = c.if-body-eq33.false in
    let two = c.if-body-end-ne2.false in
    let place = end.place in
    let bang : (get_or c.args.body.now 0 0 == 33) ≡ false = grind (arith, nat_tests, first) in
    plain-lines c.args.body.now c.plain_end-end.result (omega (arith, zero)) (omega (arith, most)) (omega (arith, two, place))
    (λ k below. end.none k (omega (arith, below))) (sym c.is_line_end.ensures ∙ c.if-not-is_line_end.false) bang

pub returns-clause-plain : goal.returns-clause-plain
returns-clause-plain c =
    let end = c.plain_end-end.ensures in
    let zero = c.if-end-eq0.false in
    let most = c.if-end-gt-ENTRY_MAX.false in
    let first = c.if-body-eq33.false in
    let two = c.if-body-end-ne2.false in
    let place = end.place in
    let bang : (get_or c.args.body.now 0 0 == 33) ≡ false = grind (arith, nat_tests, first) in
    plain-body c.args.body.now c.plain_end-end.result (omega (arith, zero)) (omega (arith, most)) (omega (arith, two, place))
    (λ k below. end.none k (omega (arith, below))) (sym c.is_line_end.ensures ∙ c.if-not-is_line_end.false) bang

pub returns-then-end-eq0-clause-none : goal.returns-then-end-eq0-clause-none
returns-then-end-eq0-clause-none c = λ entry is.
    let found = c.plain_end-end.ensures in
    let body = c.args.body.now in
    let end = c.plain_end-end.result in
    let same : end - 0 ≡ end = omega arith in
    let ends : end ≡ length entry = plain-ends entry body is end (λ k below. found.none k (omega (arith, below)))
    (λ within. subst (λ n. is_byte3 10 13 92 (get_or body n 0) ≡ true) same (found.stops within)) in
    let some = is.plain.some in
    let short = is.plain.short in
    let first = plain-first entry body is in
    elim c.then-end-eq0.branch [
      | then-end-eq0-via-then-end-eq0 w ↦ omega (arith, ends, some, w.if-end-eq0.true)
      | then-end-eq0-via-else-end-eq0+then-end-gt-ENTRY_MAX w ↦ omega (arith, ends, short, w.if-end-gt-ENTRY_MAX.true)
      | then-end-eq0-via-else-end-eq0+else-end-gt-ENTRY_MAX+then-body-eq33 w ↦ grind (arith, nat_tests, first, w.if-body-eq33.true)
    ]

pub returns-then-body-end-ne2-clause-none : goal.returns-then-body-end-ne2-clause-none
returns-then-body-end-ne2-clause-none c = λ entry is.
    let found = c.plain_end-end.ensures in
    let body = c.args.body.now in
    let end = c.plain_end-end.result in
    let same : end - 0 ≡ end = omega arith in
    let ends : end ≡ length entry = plain-ends entry body is end (λ k below. found.none k (omega (arith, below)))
    (λ within. subst (λ n. is_byte3 10 13 92 (get_or body n 0) ≡ true) same (found.stops within)) in
    let len = plain-len entry body is in
    let last : begins_with_end (drop end body) ≡ true = ap (λ n. begins_with_end (drop n body)) ends ∙ plain-line-end entry body is in
    elim c.then-body-end-ne2.branch [
      | then-body-end-ne2-via-then-body-end-ne2 w ↦ w.if-body-end-ne2.true (omega (arith, ends, len))
      | then-body-end-ne2-via-else-body-end-ne2+then-not-is_line_end w ↦ cc (w.if-not-is_line_end.true, w.is_line_end.ensures, last)
    ]
