-- One digit or two stand before what stood at the end.
use Rattle.std.proofs.Common.{◌≡◌, ◌+◌, ◌-◌, ◌≤◌, ◌∷◌, arith, length, drop, ◌∙◌, refl, slice_set}
use Rattle.std.specs.Fmt.{decimal}
use Rattle.std.proofs.lemmas.Fmt.{decimal_nonempty}
use Rattle.std.proofs.lemmas.List.{drop-set}
use Rattle.beep_octets.proofs.FrontLemmas.{one_digit, two_digits, two_at_least}
use Rattle.beep_octets.proofs.front.put_short.Goals as goal

pub overflow_sub-at : goal.overflow_sub-at
overflow_sub-at c = omega (arith, c.requires.room, decimal_nonempty c.args.number (omega (arith, c.ranges.number.fits)))

pub overflow_sub-at-2 : goal.overflow_sub-at-2
overflow_sub-at-2 c =
    omega (arith, c.requires.room, two_at_least c.args.number (omega (arith, c.if-number-lt10.false)) (omega (arith, c.ranges.number.fits)))

pub returns-then-number-lt10-clause-put : goal.returns-then-number-lt10-clause-put
returns-then-number-lt10-clause-put c =
    let some : 1 ≤ length (decimal c.args.number) = decimal_nonempty c.args.number (omega (arith, c.ranges.number.fits)) in
    let back : c.args.end - 1 + 1 ≡ c.args.end = omega (arith, some, c.requires.room) in
    let put : drop (c.args.end - 1) (slice_set c.args.octets.now (c.args.end - 1) (48 + c.args.number))
    ≡ (48 + c.args.number) ∷ drop (c.args.end - 1 + 1) c.args.octets.now = drop-set c.args.octets.now (c.args.end - 1) (48 + c.args.number) (omega (arith, some, c.requires.end, c.well_formed, c.told-octets)) in
    put
    ∙ rw back (one_digit c.args.number (48 + c.args.number) (drop c.args.end c.args.octets.now) c.if-number-lt10.true refl)

pub returns-clause-put : goal.returns-clause-put
returns-clause-put c =
    let many : 10 ≤ c.args.number = omega (arith, c.if-number-lt10.false) in
    let some : 2 ≤ length (decimal c.args.number) = two_at_least c.args.number many (omega (arith, c.ranges.number.fits)) in
    let back : c.args.end - 2 + 2 ≡ c.args.end = omega (arith, some, c.requires.room) in
    c.put_pair.ensures ∙ rw back (two_digits c.args.number (drop c.args.end c.args.octets.now) many c.requires.short)
