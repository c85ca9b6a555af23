-- The one text that is written of an element: that of one tree of pieces.
-- The writer appends octets; here the pieces are chosen, and their text is the grammar's.
-- Choice: an element without items is one tag, values stand between `'`, and what could be read
-- otherwise is a reference (docs/DECISIONS.md, "Canonical text").
use Rattle.std.specs.Prelude.{ℕ, Bool, true, false, ◌&&◌, ◌==◌, List, [], ◌∷◌, map, flat_map, fold, if◌then◌else◌, codes}
use Rattle.beep_text.specs.declared.attr.Attr.{Attr}
use Rattle.beep_text.specs.declared.element.Item.{Item}
use Rattle.beep_text.specs.Tree.{Items, Tree, nothing, with_chars, with_child}
use Rattle.beep_text.specs.Elements.{Written, plain, named, decimal, AttrText, Tag, Pieces, no_pieces, character, alone, around, pieces_text, written_text}

-- how a character is written, in a value or not
abbrev pub written_as : Bool → ℕ → Written
written_as in_value c =
    if c == 38 then named 38 else (if c == 60 then named 60
    else (if c == 62 then named 62 else (if c == 13 then decimal (codes "13")
    else (if in_value && c == 39 then named 39
    else (if in_value && c == 9 then decimal (codes "9")
    else (if in_value && c == 10 then decimal (codes "10") else plain c))))))

-- how an attribute is written
abbrev pub attr_as : Attr → AttrText
attr_as a = record {
  gap = 32 ∷ [];
  name = a.name;
  before = [];
  after = [];
  quote = 39;
  value = map (written_as true) a.value;
}

-- how a tag is written, with this white space before its end
abbrev pub tag_as : List ℕ → List Attr → List ℕ → Tag
tag_as name attrs gap = record { name = name; attrs = map attr_as attrs; gap = gap }

-- characters after pieces
abbrev pub chars_as : Pieces → List ℕ → Pieces
chars_as ps cs = fold (λ pieces c. character pieces (written_as false c)) ps cs

-- there are no parts
abbrev pub is_nothing : Items → Bool
is_nothing nothing = true
is_nothing (with_chars items cs) = false
is_nothing (with_child items name attrs inside) = false

-- an element after pieces: one tag where it holds nothing
abbrev pub child_as : Pieces → List ℕ → List Attr → Items → Pieces → Pieces
child_as ps name attrs inside inner =
    if is_nothing inside then alone ps (tag_as name attrs (32 ∷ []))
    else around ps (tag_as name attrs []) inner []

-- the pieces that are written
abbrev pub pieces_as : Items → Pieces
pieces_as nothing = no_pieces
pieces_as (with_chars items cs) = chars_as (pieces_as items) cs
pieces_as (with_child items name attrs inside) =
    child_as (pieces_as items) name attrs inside (pieces_as inside)

-- the canonical text of an element
abbrev pub element_text : Tree → List ℕ
element_text e = pieces_text (child_as no_pieces e.name e.attrs e.items (pieces_as e.items))

-- the canonical text of what an element holds
abbrev pub items_text : Items → List ℕ
items_text items = pieces_text (pieces_as items)

-- the canonical text of a part
abbrev pub item_text : Item → List ℕ
item_text (Item.Chars cs) = flat_map (λ c. written_text (written_as false c)) cs
item_text (Item.Child e) = element_text e
