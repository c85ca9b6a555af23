-- The places of the LF octets are as many as these.
use Rattle.std.proofs.Common.{◌==◌, ◌+◌, ◌∙◌, ap, length, min}
use Rattle.memchr.proofs.lemmas.CallerLemmas.{length-places}
use Rattle.beep_wires.specs.declared.count.TheConstants.{COUNT_MAX}
use Rattle.beep_lines.proofs.counted.lines_after.Goals as goal

pub returns : goal.returns
returns c =
    let counted = c.count.ensures ∙ ap length c.memchr_iter.ensures.value ∙ length-places (λ octet. octet == 10) c.args.octets.now in
    c.saturating_add.ensures ∙ ap (λ n. min (c.args.lines + n) COUNT_MAX) counted
