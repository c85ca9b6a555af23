use Rattle.std.proofs.Common.{◌∙◌, ap, sym, slice_get}
use Rattle.beep_text.specs.Tree.{Tree}
use Rattle.beep_text.specs.Listed.{listed}
use Rattle.beep_text.proofs.ElementLemmas.{listed-items_listed, looked_up}
use Rattle.beep_text.proofs.element.Element.item.Goals as goal

pub returns : goal.returns
returns c =
    let same = c.deref.ensures.value ∙ sym (listed-items_listed c.self.inside.items.items) ∙ ap (λ (t : Tree). listed t.items) c.self.view_is in
    looked_up _ c.args.i c.get.result c.get.ensures.lookup ∙ ap (λ xs. slice_get xs c.args.i) same
