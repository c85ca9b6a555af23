-- Which texts say which element, and where a text that says none is refused (RFC 3080, section
-- 6.4).
-- The reader takes one octet at a time; here a text is the text of a tree of pieces, and the place
-- of a
-- refusal is stated over the whole text: no octets that could follow make it one.
-- Choice: the form is closed: no declarations, comments or instructions (docs/DECISIONS.md, "The
-- form of elements").
use Rattle.std.specs.Prelude.{◌≡◌, ℕ, suc, ◌+◌, ◌-◌, ◌*◌, ◌<◌, ◌≤◌, ◌≢◌, Bool, true, false, ◌&&◌, ◌||◌, not, nat_le, nat_lt, ◌==◌, List, [], ◌∷◌, ◌++◌, length, take, drop, map, flat_map, fold, IsTrue, if◌then◌else◌, codes, encode_utf8, encode_utf8_all}
use Rattle.std.specs.List.{list_all}
use Rattle.beep_text.specs.declared.attr.Attr.{Attr}
use Rattle.beep_text.specs.declared.limits.TheConstants.{MAX_NESTED}
use Rattle.beep_chars.specs.Characters.{is_space, is_allowed, is_digit, is_name}
use Rattle.beep_text.specs.Lawful.{has_name}
use Rattle.beep_text.specs.Tree.{Items, Tree, nothing, with_chars, with_child}

-- ---- a character

-- a character as it is written: itself, one of the five names, or its number in digits
pub data Written : Type 0 where
  plain : ℕ → Written
  named : ℕ → Written
  decimal : List ℕ → Written
  hexadecimal : List ℕ → Written

-- the name of a character that has one
abbrev pub name_of : ℕ → List ℕ
name_of c =
    if c == 60 then codes "lt" else (if c == 62 then codes "gt"
    else (if c == 38 then codes "amp" else (if c == 39 then codes "apos" else codes "quot")))

-- the character has a name
abbrev pub has_reference : ℕ → Bool
has_reference c = c == 60 || c == 62 || c == 38 || c == 39 || c == 34

-- the octet is a hexadecimal digit
abbrev pub is_hex_digit : ℕ → Bool
is_hex_digit c = is_digit c || (nat_le 65 c && nat_le c 70) || (nat_le 97 c && nat_le c 102)

-- what a digit stands for
abbrev pub digit_of : ℕ → ℕ
digit_of c = if nat_le c 57 then c - 48 else (if nat_le c 70 then c - 55 else c - 87)

-- the number that digits spell, to a base
abbrev pub number_of : ℕ → List ℕ → ℕ
number_of base digits = fold (λ n c. base * n + digit_of c) 0 digits

-- the octets
abbrev pub written_text : Written → List ℕ
written_text (plain c) = encode_utf8 c
written_text (named c) = 38 ∷ name_of c ++ 59 ∷ []
written_text (decimal digits) = 38 ∷ 35 ∷ digits ++ 59 ∷ []
written_text (hexadecimal digits) = 38 ∷ 35 ∷ 120 ∷ digits ++ 59 ∷ []

-- the character that they say
abbrev pub written_char : Written → ℕ
written_char (plain c) = c
written_char (named c) = c
written_char (decimal digits) = number_of 10 digits
written_char (hexadecimal digits) = number_of 16 digits

-- it is a reference, to any number
abbrev pub is_reference : Written → Bool
is_reference (plain c) = false
is_reference (named c) = has_reference c
is_reference (decimal digits) = list_all is_digit digits && nat_lt 0 (length digits)
is_reference (hexadecimal digits) = list_all is_hex_digit digits && nat_lt 0 (length digits)

-- it may stand where stop may not stand plain: a quote in a value, `<` in what an element holds
abbrev pub is_written : ℕ → Written → Bool
is_written stop (plain c) = is_allowed c && not (c == 38) && not (c == 60) && not (c == stop)
is_written stop (named c) = is_reference (named c)
is_written stop (decimal digits) = is_reference (decimal digits) && is_allowed (number_of 10 digits)
is_written stop (hexadecimal digits) =
    is_reference (hexadecimal digits) && is_allowed (number_of 16 digits)

-- ---- a tag

-- an attribute as it is written, with the white space before it and round its `=`
pub record AttrText : Type 0 where
  pub gap : List ℕ
  pub name : List ℕ
  pub before : List ℕ
  pub after : List ℕ
  pub quote : ℕ
  pub value : List Written

abbrev pub attr_text : AttrText → List ℕ
attr_text a =
    a.gap ++ a.name ++ a.before ++ 61 ∷ a.after ++ a.quote ∷ flat_map written_text a.value
    ++ a.quote ∷ []

abbrev pub attr_said : AttrText → Attr
attr_said a = record { name = a.name; value = map written_char a.value }

pub record IsAttrText (a : AttrText) : Type 0 where
  pub gap : IsTrue (list_all is_space a.gap && nat_lt 0 (length a.gap))
  pub name : IsTrue (is_name a.name)
  pub before : IsTrue (list_all is_space a.before)
  pub after : IsTrue (list_all is_space a.after)
  pub quote : IsTrue (a.quote == 34 || a.quote == 39)
  pub value : IsTrue (list_all (is_written a.quote) a.value)

-- a tag up to its `>` or `/>`
pub record Tag : Type 0 where
  pub name : List ℕ
  pub attrs : List AttrText
  pub gap : List ℕ

abbrev pub tag_text : Tag → List ℕ
tag_text t = 60 ∷ t.name ++ flat_map attr_text t.attrs ++ t.gap

-- the attributes are written well, and none of them has a name of those before
abbrev pub AreAttrTexts : List Attr → List AttrText → Type 0
AreAttrTexts before [] = Unit {0}
AreAttrTexts before (a ∷ attrs) =
    IsAttrText a × (has_name a.name before ≡ false) × AreAttrTexts (before
    ++ attr_said a ∷ []) attrs

pub record IsTag (t : Tag) : Type 0 where
  pub name : IsTrue (is_name t.name)
  pub attrs : AreAttrTexts [] t.attrs
  pub gap : IsTrue (list_all is_space t.gap)

-- ---- what an element holds

-- pieces, and one last piece: a character, a CDATA section, an empty element, or an element round
-- others
pub data Pieces : Type 0 where
  no_pieces : Pieces
  character : Pieces → Written → Pieces
  section : Pieces → List ℕ → Pieces
  alone : Pieces → Tag → Pieces
  around : Pieces → Tag → Pieces → List ℕ → Pieces

abbrev pub pieces_text : Pieces → List ℕ
pieces_text no_pieces = []
pieces_text (character ps w) = pieces_text ps ++ written_text w
pieces_text (section ps cs) =
    pieces_text ps ++ codes "<![CDATA[" ++ encode_utf8_all cs ++ codes "]]>"
pieces_text (alone ps tag) = pieces_text ps ++ tag_text tag ++ codes "/>"
pieces_text (around ps tag inner gap) =
    pieces_text ps ++ tag_text tag ++ 62 ∷ pieces_text inner ++ 60 ∷ 47 ∷ tag.name ++ gap ++ 62 ∷ []

-- one more character: characters that stand together are one run
abbrev pub put : Items → ℕ → Items
put nothing c = with_chars nothing (c ∷ [])
put (with_chars items cs) c = with_chars items (cs ++ c ∷ [])
put (with_child items name attrs inside) c =
    with_chars (with_child items name attrs inside) (c ∷ [])

-- what pieces say
abbrev pub items_of : Pieces → Items
items_of no_pieces = nothing
items_of (character ps w) = put (items_of ps) (written_char w)
items_of (section ps cs) = fold put (items_of ps) cs
items_of (alone ps tag) = with_child (items_of ps) tag.name (map attr_said tag.attrs) nothing
items_of (around ps tag inner gap) =
    with_child (items_of ps) tag.name (map attr_said tag.attrs) (items_of inner)

-- `]]>` stands nowhere in the characters
abbrev pub IsSection : List ℕ → Type 0
IsSection cs = (front back : List ℕ) → cs ≢ front ++ codes "]]>" ++ back

-- the pieces may stand within so many elements
abbrev pub IsPieces : ℕ → Pieces → Type 0
IsPieces depth no_pieces = Unit {0}
IsPieces depth (character ps w) = IsPieces depth ps × IsTrue (is_written 60 w)
IsPieces depth (section ps cs) = IsPieces depth ps × IsTrue (list_all is_allowed cs) × IsSection cs
IsPieces depth (alone ps tag) = IsPieces depth ps × IsTag tag × (depth < MAX_NESTED)
IsPieces depth (around ps tag inner gap) =
    IsPieces depth ps × IsTag tag × (depth < MAX_NESTED) × IsPieces (suc depth) inner
    × IsTrue (list_all is_space gap)

-- ---- a body

-- there are no pieces
abbrev pub is_none : Pieces → Bool
is_none no_pieces = true
is_none (character ps w) = false
is_none (section ps cs) = false
is_none (alone ps tag) = false
is_none (around ps tag inner gap) = false

-- one element and nothing else
abbrev pub is_one : Pieces → Bool
is_one no_pieces = false
is_one (character ps w) = false
is_one (section ps cs) = false
is_one (alone ps tag) = is_none ps
is_one (around ps tag inner gap) = is_none ps

-- the body says the element
pub record IsBody (body : List ℕ) (e : Tree) : Type 0 where
  pub before : List ℕ
  pub root : Pieces
  pub after : List ℕ
  pub text : body ≡ before ++ pieces_text root ++ after
  pub spaces_before : IsTrue (list_all is_space before)
  pub spaces_after : IsTrue (list_all is_space after)
  pub one : IsTrue (is_one root)
  pub pieces : IsPieces 0 root
  pub value : items_of root ≡ with_child nothing e.name e.attrs e.items

-- ---- where a text is refused

-- some octets can follow
abbrev pub IsAlive : List ℕ → Type 0
IsAlive text = (more : List ℕ) × (e : Tree) × IsBody (text ++ more) e

-- q is the first octet after which none can follow, or the length of a body that ends too soon
pub record Stops (body : List ℕ) (q : ℕ) : Type 0 where
  pub within : q ≤ length body
  pub alive : IsAlive (take q body)
  pub dead : q < length body → ¬ (IsAlive (take (suc q) body))
  pub short : q ≡ length body → (e : Tree) → ¬ (IsBody body e)

-- a proper prefix of a reference
pub record IsBegun (octets : List ℕ) : Type 0 where
  pub whole : Written
  pub reference : IsTrue (is_reference whole)
  pub next : ℕ
  pub others : List ℕ
  pub text : written_text whole ≡ octets ++ next ∷ others

-- the octets from p to before q stand in the place of a reference, where `&` may stand and not
-- plain, and begin one
pub record IsEntity (body : List ℕ) (q p : ℕ) : Type 0 where
  pub octet : q < length body
  pub before : p < q
  pub place : IsAlive (take p body ++ 38 ∷ [])
  pub only : ¬ (IsAlive (take p body ++ 38 ∷ 32 ∷ []))
  pub begun : IsBegun (drop p (take q body))
