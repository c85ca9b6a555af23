use Rattle.std.proofs.Common.{List, subst, sym, ◌≡◌, false}
use Rattle.beep_text.specs.declared.attr.Attr.{Attr}
use Rattle.beep_text.specs.Tree.{Tree}
use Rattle.beep_text.specs.Listed.{tree_of}
use Rattle.beep_text.specs.Lawful.{IsElement, has_name}
use Rattle.beep_text.proofs.ElementLemmas.{are_attrs-push, either_way}
use Rattle.beep_text.proofs.element.Element.push_attr.Goals as goal

pub invariant_of-self : goal.invariant_of-self
invariant_of-self c =
    let f = c.self.inside in
    let is = c.self.invariant in
    let P : List Attr → Type 0 = λ attrs. IsElement (tree_of f.name attrs f.items.items) in
    let Q : Tree → Type 0 = λ t. has_name c.args.name t.attrs ≡ false in
    let apart = subst Q (sym c.self.view_is) c.requires.new in
    let are = are_attrs-push f.attrs.items (record { name = c.args.name; value = c.args.value }) is.attrs c.requires.named c.requires.allowed apart in
    either_way P _ _ _ _ c.push_attr.ensures.ok c.push_attr.ensures.err (record { named = is.named; attrs = are; items = is.items; nested = is.nested }) is
