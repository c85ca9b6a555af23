use Rattle.std.proofs.Common.{rules, ◌≡◌, ◌<◌, length, arith}
use Rattle.beep_show.specs.beep_input.specs.declared.whole.TheConstants.{MAX_INPUT}
use Rattle.beep_show.specs.Texts.{bad_line}
use Rattle.beep_cmd.proofs.PairLemmas.{long_said}
use Rattle.beep_cmd.proofs.pair.tell_input.Goals as goal

pub returns-in-Ok-clause-ok : goal.returns-in-Ok-clause-ok
returns-in-Ok-clause-ok g c =
    let more : MAX_INPUT < length c.in-Ok.octets.items = omega (arith, c.if-len-gt-MAX_INPUT.true, c.len.ensures) in
    let text : c.append_numbered.new.out.octets ≡ bad_line c.line_past.result = search rules in
    long_said c.args.settings c.in-Ok.octets.items c.as_slice.result.now _ c.line_past.result _ _ c.in-Ok.ensures.ok more c.as_slice.ensures.value c.line_past.ensures text
