use Rattle.std.proofs.Common.{◌<◌, ◌==◌, length, arith, get_or}
use Rattle.beep_input.proofs.LineLemmas.{pieces-at, one-at-most}
use Rattle.beep_input.proofs.lines.line_after.Goals as goal

pub loop-i-preserved : goal.loop-i-preserved
loop-i-preserved c =
    let within : c.loop-i.i < length c.args.octets.now = omega (arith, c.loop-i-test.true) in
    let step = pieces-at c.args.octets.now c.loop-i.i 0 within in
    let one = one-at-most (get_or c.args.octets.now c.loop-i.i 0 == 10) in
    record {
      few = omega (arith, c.loop-i.invariant.few, c.lines_ended-number.ensures, one);
      all = omega (arith, c.loop-i.invariant.all, c.lines_ended-number.ensures, step);
    }
