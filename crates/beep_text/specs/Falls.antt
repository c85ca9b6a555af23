-- Each element that an element holds has fewer parts than it.
use Rattle.std.specs.Prelude.{◌≤◌, max, List, [], ◌∷◌, fold}
use Rattle.std.proofs.Common.{arith}
use denote.Param.Weighed.{most}
use Rattle.beep_text.specs.declared.element.Item.{Item}
use Rattle.beep_text.specs.declared.element.Element.TheDeep.{deep-Item}
use Rattle.beep_text.specs.Tree.{Items, size_of}
use Rattle.beep_text.specs.Listed.{with_item}

-- one more part adds to the size
grows : (items : Items) (x : Item) → (size_of items ≤ size_of (with_item items x))
    × (deep-Item x ≤ size_of (with_item items x))
grows items (Item.Chars cs) = (omega arith, omega arith)
grows items (Item.Child e) = (omega arith, omega arith)

-- more parts add to the size, and each part counts
both : (xs : List Item) (items : Items) → (size_of items ≤ size_of (fold with_item items xs))
    × (most deep-Item xs ≤ size_of (fold with_item items xs))
both [] items = (omega arith, omega arith)
both (x ∷ xs) items = (
  omega (arith, grows items x, both xs (with_item items x)),
  omega
      (arith, grows items x, both xs (with_item items x)),
)

pub most_le-size_of : (xs : List Item) (items : Items)
    → max (most deep-Item xs) 0 ≤ size_of (fold with_item items xs)
most_le-size_of xs items = omega (arith, both xs items)
