use Rattle.std.proofs.Common.{◌∙◌, sym, map-id}
use Rattle.std.proofs.lemmas.Iterator.{YieldsList-from_chars}
use Rattle.std.proofs.lemmas.Iterator.Consumers.{YieldsList-end}
use Rattle.beep_chars.proofs.text.Text.of.Goals as goal

pub returns : goal.returns
returns c =
    let whole = YieldsList-end (YieldsList-from_chars c.args.characters.now c.utf8.characters cc) c.loop-character.yielded _ c.loop-character.yielded_by _ _ c.in-None.is c.next.ensures.steps in
    c.loop-character.invariant ∙ sym (map-id _) ∙ whole.0
