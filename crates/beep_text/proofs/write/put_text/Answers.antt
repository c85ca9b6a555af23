use Rattle.std.proofs.Common.{◌∙◌, ap, ◌++◌, flat_map, sym, map-id}
use Rattle.std.proofs.lemmas.Iterator.{YieldsList-from_chars}
use Rattle.std.proofs.lemmas.Iterator.Consumers.{YieldsList-end}
use Rattle.beep_text.specs.Elements.{written_text}
use Rattle.beep_text.specs.Canonical.{written_as}
use Rattle.beep_text.proofs.write.put_text.Goals as goal

pub returns : goal.returns
returns c =
    let whole = YieldsList-end (YieldsList-from_chars c.as_str.result.now c.as_str.utf8 cc) c.loop-character.yielded _ c.loop-character.yielded_by _ _ c.in-None.is c.next.ensures.steps in
    c.loop-character.invariant ∙ ap (λ cs. c.args.out.now.octets ++ flat_map (λ ch. written_text (written_as c.args.in_value ch)) cs) (sym (map-id _) ∙ whole.0 ∙ c.as_str.ensures)
