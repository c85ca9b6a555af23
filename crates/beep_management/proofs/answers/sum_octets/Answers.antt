-- One more answer is counted.
use Rattle.std.proofs.Common.{◌+◌, ◌<◌, rules, arith}
use Rattle.beep_management.proofs.AnswerLemmas.{octets-more, octets-within}
use Rattle.beep_management.specs.Values.{all_prepared}
use Rattle.beep_management.proofs.answers.sum_octets.Goals as goal

pub loop-i-preserved : goal.loop-i-preserved
loop-i-preserved c =
    let more = octets-more c.args.list.now.items c.loop-i.i c.index.result.now (search rules) c.index.ensures in
    let sum = c.in-Some.ensures.1 in
    omega (arith, more, sum, c.len.ensures, c.loop-i.invariant)

pub returns-in_default-clause-none : goal.returns-in_default-clause-none
returns-in_default-clause-none c =
    let more = octets-more c.args.list.now.items c.loop-i.i c.index.result.now (search rules) c.index.ensures in
    let within = octets-within (all_prepared c.args.list.now.items) (c.loop-i.i + 1) in
    let over : c.loop-i.octets + c.len.result < 18446744073709551616 → ⊥ = c.in_default.ensures in
    omega (arith, more, within, over, c.len.ensures, c.loop-i.invariant)
