-- The line that a listener writes of an entry (docs/DECISIONS.md, "The line of an entry").
-- The code writes octet by octet, in room that is there.
use Rattle.std.specs.Prelude.{◌≡◌, ℕ, ◌+◌, ◌*◌, ◌<◌, ◌≤◌, min, nat_lt, ◌==◌, List, [], ◌∷◌, ◌++◌, length, take, flat_map, codes, if◌then◌else◌}
use Rattle.prof_raw.specs.declared.line.TheConstants.{ENTRY_MAX}
use Rattle.prof_raw.specs.Entries.{line_end}

-- an octet as it is written: LF, CR and `\` by two octets, every other one as it is
abbrev pub octet_written : ℕ → List ℕ
octet_written octet =
    if octet == 10 then codes "\\n"
    else if octet == 13 then codes "\\r"
    else if octet == 92 then codes "\\\\"
    else octet ∷ []

-- octets as they are written
abbrev pub octets_written : List ℕ → List ℕ
octets_written octets = flat_map octet_written octets

-- `\` before an entry that begins with `!`
abbrev pub bang_mark : List ℕ → List ℕ
bang_mark [] = []
bang_mark (octet ∷ octets) = if octet == 33 then 92 ∷ [] else []

-- `\+` after one that isn't written whole
abbrev pub more_mark : List ℕ → List ℕ
more_mark entry = if nat_lt ENTRY_MAX (length entry) then codes "\\+" else []

-- the line of an entry, with the LF that ends it
abbrev pub line_of : List ℕ → List ℕ
line_of entry =
    bang_mark entry ++ octets_written (take ENTRY_MAX entry) ++ more_mark entry ++ 10 ∷ []

-- an entry whose line is the entry itself: it isn't cut, wants no mark, and each octet is written
-- as it is
pub record IsPlain (entry : List ℕ) : Type 0 where
  pub some : 0 < length entry
  pub short : length entry ≤ ENTRY_MAX
  pub unmarked : bang_mark entry ≡ []
  pub as_it_is : octets_written entry ≡ entry

-- a body of one such entry, ended by its line end
pub record IsPlainBody (entry body : List ℕ) : Type 0 where
  pub plain : IsPlain entry
  pub ended : body ≡ entry ++ line_end

-- the lines of entries
abbrev pub lines_of : List (List ℕ) → List ℕ
lines_of entries = flat_map line_of entries

-- the line of an entry of this length has at most so many octets
abbrev pub line_room : ℕ → ℕ
line_room count = 2 * min count ENTRY_MAX + 4
