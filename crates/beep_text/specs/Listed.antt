-- How the parts that the code lists are one value.
use Rattle.std.specs.Prelude.{ℕ, List, [], ◌∷◌, ◌++◌, fold}
use Rattle.beep_text.specs.Tree.{Items, Tree, nothing, with_chars, with_child}
use Rattle.beep_text.specs.declared.attr.Attr.{Attr}
use Rattle.beep_text.specs.declared.element.Item.{Item}

-- what stands with one more part at its end
abbrev pub with_item : Items → Item → Items
with_item items (Item.Chars cs) = with_chars items cs
with_item items (Item.Child e) = with_child items e.name e.attrs e.items

-- the parts, in their order, as one value
abbrev pub items_listed : List Item → Items
items_listed items = fold with_item nothing items

-- the value of an element's name, attributes and parts
abbrev pub tree_of : List ℕ → List Attr → List Item → Tree
tree_of name attrs items = record { name = name; attrs = attrs; items = items_listed items }

-- the parts of a value, in their order
abbrev pub listed : Items → List Item
listed nothing = []
listed (with_chars items cs) = listed items ++ Item.Chars cs ∷ []
listed (with_child items name attrs inside) =
    listed items ++ Item.Child (record { name = name; attrs = attrs; items = inside }) ∷ []
