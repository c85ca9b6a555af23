-- The first digit, and one more.
use Rattle.std.proofs.Common.{◌≤◌, ◌*◌, ◌+◌, get_or, sym, ◌∙◌, ap, arith}
use Rattle.std.specs.Fmt.{decimal}
use Rattle.std.proofs.lemmas.Bool.Decides.{nat_tests}
use Rattle.beep_frame.proofs.HeaderLemmas.{digit_first, digit_more}
use Rattle.beep_frame.proofs.whole.positive.Goals as goal

pub loop-at-init : goal.loop-at-init
loop-at-init c =
    let first = c.requires.first in
    let is = c.from-number.ensures in
    let some = c.requires.some in
    record {
      some = omega (arith, first, is);
      within = omega (arith, some);
      so_far = digit_first c.args.bytes.now some (omega (arith, first)) (omega (arith, first)) ∙ ap decimal (sym is);
    }

pub loop-at-preserved : goal.loop-at-preserved
loop-at-preserved c =
    let digit = sym c.is_ascii_digit.ensures.value ∙ c.if-is_ascii_digit.true in
    let low : 48 ≤ get_or c.args.bytes.now c.loop-at.at 0 = grind (arith, nat_tests, digit) in
    let high : get_or c.args.bytes.now c.loop-at.at 0 ≤ 57 = grind (arith, nat_tests, digit) in
    let inside = c.loop-at-test.true in
    let number = c.if-number-most.true in
    let most = c.from-most.ensures in
    let max = c.ranges.max.fits in
    let some = c.loop-at.invariant.some in
    record {
      some = omega (arith, some);
      within = omega (arith, inside);
      so_far = digit_more c.loop-at.at c.loop-at.number c.args.bytes.now c.loop-at.invariant.so_far some (omega (arith, number, most, max)) inside low high
          ∙ ap (λ d. decimal (c.loop-at.number * 10 + d)) (sym c.from.ensures);
    }
