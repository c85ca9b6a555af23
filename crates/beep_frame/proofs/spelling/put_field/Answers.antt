-- A number of 32 bits has at most ten digits, and a space finds room before them.
use Rattle.std.proofs.Common.{◌+◌, ◌≡◌, ◌∙◌, length, length-append, ap, arith}
use Rattle.std.specs.Fmt.{decimal}
use Rattle.beep_frame.proofs.FieldLemmas.{few_digits}
use Rattle.beep_frame.proofs.spelling.put_field.Goals as goal

pub put_number-requires : goal.put_number-requires
put_number-requires c = record { room = omega (arith, few_digits c.args.number c.ranges.number.fits, c.requires) }

pub put-requires : goal.put-requires
put-requires c =
    let few = few_digits c.args.number c.ranges.number.fits in
    let both : length c.put_number.new.self ≡ length (decimal c.args.number) + length c.args.line.now
    = ap length c.put_number.ensures ∙ length-append (decimal c.args.number) c.args.line.now in
    record { room = omega (arith, few, both, c.requires) }

pub returns-clause-within : goal.returns-clause-within
returns-clause-within c = omega (arith, few_digits c.args.number c.ranges.number.fits)
