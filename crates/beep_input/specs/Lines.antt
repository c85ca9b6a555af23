-- The lines of an input: what stands between its LFs, without the CR at an end, but for empty
-- lines.
-- The code goes from one LF to the next; here the input is cut whole.
-- Choice: empty lines are dropped (docs/DECISIONS.md, "Lines of an input").
use Rattle.std.specs.Prelude.{◌≡◌, ℕ, ◌+◌, ◌-◌, ◌≤◌, Bool, ◌==◌, ◌&&◌, nat_lt, get_or, Option, None, Some, List, [], ◌∷◌, ◌++◌, length, take, map, if◌then◌else◌}
use Rattle.std.specs.List.{filter}
use Rattle.std.specs.Io.KnownBytes.{Consumes}
use Rattle.beep_wires.specs.Counts.{Rose}
use Rattle.beep_wires.specs.States.{SourceState}
use Rattle.prof_raw.specs.Entries.{has_some}
use Rattle.prof_raw.specs.declared.line.TheConstants.{ENTRY_MAX}
use Rattle.beep_input.specs.declared.whole.TheConstants.{MAX_INPUT}
use Rattle.beep_input.specs.declared.lines.Unlisted.{Unlisted}
use Rattle.beep_input.specs.Whole.{HasEnded, ReadsFew}

-- one octet and the pieces of what follows it: an LF ends a piece
abbrev pub put_octet : ℕ → List (List ℕ) → List (List ℕ)
put_octet octet [] = (octet ∷ []) ∷ []
put_octet octet (piece ∷ pieces) =
    if octet == 10 then [] ∷ piece ∷ pieces else (octet ∷ piece) ∷ pieces

-- the pieces of an input between its LFs
abbrev pub pieces_at_lf : List ℕ → List (List ℕ)
pieces_at_lf [] = [] ∷ []
pieces_at_lf (octet ∷ octets) = put_octet octet (pieces_at_lf octets)

-- the last octet is a CR
abbrev pub ends_with_cr : List ℕ → Bool
ends_with_cr octets = nat_lt 0 (length octets) && get_or octets (length octets - 1) 0 == 13

-- a piece without the CR at its end
abbrev pub without_cr : List ℕ → List ℕ
without_cr octets = if ends_with_cr octets then take (length octets - 1) octets else octets

-- the lines of an input
abbrev pub lines_of : List ℕ → List (List ℕ)
lines_of octets = filter has_some (map without_cr (pieces_at_lf octets))

-- ---- what isn't sent

-- the number of the first piece whose line is longer than any that is sent, counted from this one
-- on
abbrev pub first_long : ℕ → List (List ℕ) → Option ℕ
first_long number [] = None
first_long number (piece ∷ pieces) = if nat_lt ENTRY_MAX (length (without_cr piece))
    then Some number else first_long (number + 1) pieces

-- the number, from 1, of the line in which the octet stands that follows these
abbrev pub line_after : List ℕ → ℕ
line_after octets = length (pieces_at_lf octets)

-- the octets are the whole input, and these are its lines, of which none is too long
pub record AreLines (lines : List (List ℕ)) (octets : List ℕ) : Type 0 where
  pub few : length octets ≤ MAX_INPUT
  pub none_long : first_long 1 (pieces_at_lf octets) ≡ None
  pub lines_are : lines ≡ lines_of octets

-- the line of this number is the first that is too long
pub record IsLongAt (octets : List ℕ) (number : ℕ) : Type 0 where
  pub few : length octets ≤ MAX_INPUT
  pub long : first_long 1 (pieces_at_lf octets) ≡ Some number

-- one octet more than are kept was read, and it stands in the line of this number
pub record IsPastAt (octets : List ℕ) (number : ℕ) : Type 0 where
  pub past : length octets ≡ MAX_INPUT + 1
  pub number_is : number ≡ line_after (take MAX_INPUT octets)

-- ---- what an input gives

-- the whole input was read, and these are its lines
pub record GivesLines (lines : List (List ℕ)) (old new : SourceState) : Type 0 where
  pub octets : List ℕ
  pub consumed : Consumes old.left new.left octets
  pub ended : HasEnded new
  pub are_lines : AreLines lines octets

-- the line of this number isn't sent: it is the first of the whole input that is too long, or has
-- the first octet past those that are kept
pub data IsBad (octets : List ℕ) (number : ℕ) (new : SourceState) : Type 0 where
  long : HasEnded new → IsLongAt octets number → IsBad octets number new
  past : IsPastAt octets number → IsBad octets number new

pub record GivesBad (number : ℕ) (old new : SourceState) : Type 0 where
  pub octets : List ℕ
  pub consumed : Consumes old.left new.left octets
  pub bad : IsBad octets number new

-- why there are no lines
abbrev pub IsUnlisted : Unlisted → SourceState → SourceState → Type 0
IsUnlisted (Unlisted.Bad number) old new = GivesBad number old new
IsUnlisted Unlisted.Fault old new = Rose old.faults new.faults × ReadsFew old new
IsUnlisted Unlisted.NoMemory old new =
    (octets : List ℕ) × Consumes old.left new.left octets × (length octets ≤ MAX_INPUT + 1)

-- ---- what the pieces are

-- no octet is an LF
abbrev pub HasNoLf : List ℕ → Type 0
HasNoLf [] = Unit {0}
HasNoLf (octet ∷ octets) = (octet ≡ 10 → ⊥) × HasNoLf octets

-- pieces with an LF between each two
abbrev pub joined_by_lf : List (List ℕ) → List ℕ
joined_by_lf [] = []
joined_by_lf (piece ∷ []) = piece
joined_by_lf (piece ∷ next ∷ pieces) = piece ++ 10 ∷ joined_by_lf (next ∷ pieces)
