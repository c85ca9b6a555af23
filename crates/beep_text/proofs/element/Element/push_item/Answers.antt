use Rattle.std.proofs.Common.{List, ◌++◌, ◌∷◌, [], is_ok, subst, sym}
use Rattle.std.proofs.lemmas.List.Sums.{fold_push}
use Rattle.beep_text.specs.declared.element.Item.{Item}
use Rattle.beep_text.specs.Tree.{Tree, Items, nothing}
use Rattle.beep_text.specs.Listed.{tree_of, with_item}
use Rattle.beep_text.specs.Lawful.{IsElement, IsNext}
use Rattle.beep_text.proofs.ElementLemmas.{IsElement-next, either_if}
use Rattle.beep_text.proofs.element.Element.push_item.Goals as goal

pub invariant_of-self : goal.invariant_of-self
invariant_of-self c =
    let f = c.self.inside in
    let P : List Item → Type 0 = λ items. IsElement (tree_of f.name f.attrs.items items) in
    let Q : Tree → Type 0 = λ t. IsNext t.items c.args.item in
    let may = subst Q (sym c.self.view_is) c.requires.next in
    let more = IsElement-next (tree_of f.name f.attrs.items f.items.items) c.args.item c.self.invariant may c.is_lawful.ensures in
    let R : Items → Type 0 = λ items. IsElement (record { name = f.name; attrs = f.attrs.items; items = items }) in
    either_if P (is_ok c.push.result) c.push.new.self.items (f.items.items ++ c.args.item ∷ []) f.items.items c.push.ensures.items (subst R (sym (fold_push with_item nothing f.items.items c.args.item)) more) c.self.invariant
