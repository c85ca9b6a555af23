use Rattle.std.proofs.Common.{◌≡◌, ◌<◌, ◌+◌, ◌≤◌, ◌&&◌, length, drop, ap, ◌∙◌, arith}
use Rattle.std.proofs.lemmas.List.{take_rest}
use Rattle.beep_tally.specs.Accounts.{one_if}
use Rattle.beep_report.specs.Summary.{begins_send}
use Rattle.beep_report.proofs.LineLemmas.{lines-at, one-if-most}
use Rattle.beep_report.proofs.summary.frames_from.Goals as goal

pub loop-i-preserved : goal.loop-i-preserved
loop-i-preserved c =
    let within : c.loop-i.i < length c.args.report.now = omega (arith, c.loop-i-test.true) in
    let step = lines-at c.args.at c.loop-i.begins c.args.report.now c.loop-i.i within in
    let one = one-if-most (c.loop-i.begins && begins_send c.args.at (drop c.loop-i.i c.args.report.now)) in
    let now = c.one_if-count.ensures ∙ ap one_if c.begins_line.ensures ∙ ap (λ octets. one_if (c.loop-i.begins && begins_send c.args.at octets)) (take_rest c.args.report.now c.loop-i.i) in
    record {
      few = omega (arith, c.loop-i.invariant.few, now, one);
      all = omega (arith, c.loop-i.invariant.all, now, step);
    }
