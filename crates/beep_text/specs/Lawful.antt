-- Which values are elements: the names are names and no attribute stands twice, the characters are
-- allowed, no run of characters is empty or follows another, and at most 16 elements are nested.
use Rattle.std.specs.Prelude.{◌≡◌, ℕ, ◌+◌, ◌<◌, Bool, true, false, ◌&&◌, not, nat_lt, List, [], ◌∷◌, length, max, IsTrue, Option, Some, None, if◌then◌else◌, bytes_eq}
use Rattle.std.specs.List.{list_all, list_any}
use Rattle.beep_text.specs.declared.attr.Attr.{Attr}
use Rattle.beep_text.specs.declared.element.Item.{Item}
use Rattle.beep_text.specs.declared.limits.TheConstants.{MAX_NESTED}
use Rattle.beep_chars.specs.Characters.{is_name, is_allowed}
use Rattle.beep_text.specs.Tree.{Items, Tree, nothing, with_chars, with_child}

-- an attribute has this name
abbrev pub has_name : List ℕ → List Attr → Bool
has_name name attrs = list_any (λ a. bytes_eq a.name name) attrs

-- what the first attribute of this name is set to
abbrev pub value_named : List ℕ → List Attr → Option (List ℕ)
value_named name [] = None
value_named name (a ∷ attrs) = if bytes_eq a.name name then Some a.value else value_named name attrs

-- each attribute is one, and no name stands twice
abbrev pub are_attrs : List Attr → Bool
are_attrs [] = true
are_attrs (a ∷ attrs) =
    is_name a.name && list_all is_allowed a.value && not (has_name a.name attrs) && are_attrs attrs

-- the last part is a run of characters
abbrev pub ends_in_chars : Items → Bool
ends_in_chars nothing = false
ends_in_chars (with_chars items cs) = true
ends_in_chars (with_child items name attrs inside) = false

-- each part, at all levels, is lawful
abbrev pub are_items : Items → Bool
are_items nothing = true
are_items (with_chars items cs) =
    are_items items && not (ends_in_chars items) && nat_lt 0 (length cs) && list_all is_allowed cs
are_items (with_child items name attrs inside) =
    are_items items && is_name name && are_attrs attrs && are_items inside

-- how many elements are nested in what an element holds
abbrev pub depth_of : Items → ℕ
depth_of nothing = 0
depth_of (with_chars items cs) = depth_of items
depth_of (with_child items name attrs inside) = max (depth_of items) (depth_of inside + 1)

-- a value is an element
pub record IsElement (e : Tree) : Type 0 where
  pub named : IsTrue (is_name e.name)
  pub attrs : IsTrue (are_attrs e.attrs)
  pub items : IsTrue (are_items e.items)
  pub nested : depth_of e.items < MAX_NESTED

-- the part may stand next: a run of allowed characters that isn't empty and follows none, or an
-- element that isn't too deep
abbrev pub IsNext : Items → Item → Type 0
IsNext items (Item.Chars cs) =
    (ends_in_chars items ≡ false) × (0 < length cs) × IsTrue (list_all is_allowed cs)
IsNext items (Item.Child e) = depth_of e.items + 1 < MAX_NESTED

-- a part is lawful
abbrev pub IsItem : Item → Type 0
IsItem (Item.Chars cs) = Unit {0}
IsItem (Item.Child e) = IsElement e
