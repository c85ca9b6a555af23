-- The last two digits go first, and then those before them.
use Rattle.std.proofs.Common.{◌≡◌, ◌+◌, ◌-◌, ◌<◌, ◌≤◌, ◌^◌, ◌/◌, ◌++◌, arith, ap, length, drop, ◌∙◌}
use Rattle.std.specs.Fmt.{decimal}
use Rattle.beep_octets.proofs.FrontLemmas.{two_at_least, pair_more, pair_longer}
use Rattle.beep_octets.proofs.front.+put_digits.Goals as goal

pub overflow_sub-at : goal.overflow_sub-at
overflow_sub-at t c =
    omega (arith, c.requires.room, two_at_least c.args.number (omega (arith, c.if-number-lt100.false)) (omega (arith, c.ranges.number.fits)))

pub put_digits-requires : goal.put_digits-requires
put_digits-requires t c =
    let many : 100 ≤ c.args.number = omega (arith, c.if-number-lt100.false) in
    let longer : length (decimal (c.args.number / 100)) + 2 ≡ length (decimal c.args.number)
    = pair_longer c.args.number many (omega (arith, c.ranges.number.fits)) in
    (omega (arith, many, c.decreases), (omega (arith, c.requires.end), omega (arith, longer, c.requires.room)))

pub returns-clause-put : goal.returns-clause-put
returns-clause-put t c =
    let many : 100 ≤ c.args.number = omega (arith, c.if-number-lt100.false) in
    let small : c.args.number < 2 ^ 64 = omega (arith, c.ranges.number.fits) in
    let back : c.args.end - 2 + 2 ≡ c.args.end = omega (arith, pair_longer c.args.number many small, c.requires.room) in
    c.put_digits.ensures.put ∙ ap (λ ds. decimal (c.args.number / 100) ++ ds) c.put_pair.ensures
    ∙ rw back (pair_more c.args.number (drop c.args.end c.args.octets.now) many small)
