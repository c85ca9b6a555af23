-- The entries of a RAW body, and the body that is written of entries (RFC 3195, section 3).
-- The code goes from one end of a line to the next; here the body is its pieces, whole.
-- Choice: empty pieces are no entries (docs/DECISIONS.md, "Entries of a body").
use Rattle.std.specs.Prelude.{◌≡◌, ℕ, ◌<◌, Bool, true, false, ◌&&◌, ◌==◌, List, [], ◌∷◌, ◌++◌, length, drop, if◌then◌else◌}
use Rattle.std.specs.List.{filter, flat_map}

-- CR LF, which parts pieces and ends each entry that is written
abbrev pub line_end : List ℕ
line_end = 13 ∷ 10 ∷ []

-- the octets begin with LF
abbrev pub begins_with_lf : List ℕ → Bool
begins_with_lf [] = false
begins_with_lf (octet ∷ octets) = octet == 10

-- one octet and the pieces of what follows it: a CR with the LF after it ends a piece
abbrev pub put : ℕ → List (List ℕ) → List (List ℕ)
put octet [] = (octet ∷ []) ∷ []
put octet (piece ∷ pieces) =
    if octet == 13 && begins_with_lf piece then [] ∷ drop 1 piece ∷ pieces
    else (octet ∷ piece) ∷ pieces

-- the pieces of a body between its CR LFs
abbrev pub pieces_of : List ℕ → List (List ℕ)
pieces_of [] = []
pieces_of (octet ∷ octets) = put octet (pieces_of octets)

-- there are some octets
abbrev pub has_some : List ℕ → Bool
has_some [] = false
has_some (octet ∷ octets) = true

-- the entries of a body: its pieces that aren't empty
abbrev pub entries_of : List ℕ → List (List ℕ)
entries_of body = filter has_some (pieces_of body)

-- the body that is written: an empty MIME header, and then each entry, all ended by CR LF
abbrev pub body_of : List (List ℕ) → List ℕ
body_of entries = line_end ++ flat_map (λ entry. entry ++ line_end) entries

-- ---- what the pieces are

-- nowhere in the octets does a CR stand before an LF
abbrev pub HasNoLineEnd : List ℕ → Type 0
HasNoLineEnd octets = (before after : List ℕ) → octets ≡ before ++ 13 ∷ 10 ∷ after → ⊥

-- what can be an entry: some octets without a CR LF
pub record IsEntry (octets : List ℕ) : Type 0 where
  pub some : 0 < length octets
  pub one_line : HasNoLineEnd octets

-- pieces with a CR LF between each two
abbrev pub joined : List (List ℕ) → List ℕ
joined [] = []
joined (piece ∷ []) = piece
joined (piece ∷ next ∷ pieces) = piece ++ 13 ∷ 10 ∷ joined (next ∷ pieces)
