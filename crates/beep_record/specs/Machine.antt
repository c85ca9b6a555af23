-- The reader as a machine that takes one octet at a time, for the proofs alone: what a text says is
-- in Record.
-- The code takes at once a run of octets that stand for themselves.
use Rattle.std.specs.Prelude.{ℕ, ◌+◌, ◌-◌, ◌*◌, Bool, true, false, not, ◌&&◌, ◌||◌, nat_le, nat_lt, ◌==◌, if◌then◌else◌, List, [], ◌∷◌, ◌++◌, length, slice_index, Option, None, Some}
use Rattle.std.specs.List.{list_all}
use Rattle.beep_history.specs.declared.journal.Side.{Side}
use Rattle.beep_journal.specs.declared.role.Role.{Role}
use Rattle.beep_journal.specs.Log.{Entry, quiet, ended}
use Rattle.beep_record.specs.declared.limits.TheConstants.{MAX_ENTRY}
use Rattle.beep_record.specs.declared.mode.Mode.{Mode}
use Rattle.beep_record.specs.declared.mode.Part.{Part}
use Rattle.beep_record.specs.Record.{is_plain, first_line, piece_of}

-- where the reader stands, what the lines before say, and the piece that is under way
pub record State : Type 0 where
  pub mode : Mode
  pub role : Role
  pub over : Bool
  pub log : List Entry
  pub piece : List ℕ

-- before any octet
abbrev pub start : State
start = record {
  mode = Mode.First Role.Initiator 0;
  role = Role.Initiator;
  over = false;
  log = [];
  piece = [];
}

-- the same in another place
abbrev pub moved : State → Mode → State
moved s mode = record s { mode = mode }

-- ---- an octet of a piece

-- each of these octets stands for itself
abbrev pub are_plain : List ℕ → Bool
are_plain octets = list_all is_plain octets

-- a hexadecimal digit in lower case
abbrev pub is_hex : ℕ → Bool
is_hex octet = (nat_le 48 octet && nat_le octet 57) || (nat_le 97 octet && nat_le octet 102)

-- what it stands for
abbrev pub digit_of : ℕ → ℕ
digit_of octet = if nat_le octet 57 then octet - 48 else octet - 87

-- an octet that is written by two digits
abbrev pub is_hexed : ℕ → Bool
is_hexed octet = (nat_lt octet 32 && not (octet == 10) && not (octet == 13)) || nat_lt 126 octet

-- the first digit of such an octet
abbrev pub is_high : ℕ → Bool
is_high digit = nat_lt digit 2 || nat_le 7 digit

-- one more octet of the piece
abbrev pub kept : State → Side → ℕ → Option State
kept s side octet =
    Some (record s { mode = Mode.Piece side Part.Fresh; piece = s.piece ++ octet ∷ [] })

-- a line that ends: its entry is the latest
abbrev pub with_entry : State → Entry → Bool → State
with_entry s entry over =
    record s { mode = Mode.Start; over = over; log = entry ∷ s.log; piece = [] }

abbrev pub fresh_step : State → Side → ℕ → Option State
fresh_step s side octet =
    if octet == 10
    then (if length s.piece == 0 then None else Some (with_entry s (piece_of side s.piece) s.over))
    else if nat_le MAX_ENTRY (length s.piece) then None
    else if octet == 92 then Some (moved s (Mode.Piece side Part.Slash))
    else if is_plain octet then kept s side octet
    else None

abbrev pub slash_step : State → Side → ℕ → Option State
slash_step s side octet =
    if octet == 114 then kept s side 13
    else if octet == 110 then kept s side 10
    else if octet == 92 then kept s side 92
    else if is_hex octet && is_high (digit_of octet)
    then Some (moved s (Mode.Piece side (Part.High (digit_of octet))))
    else None

abbrev pub high_step : State → Side → ℕ → ℕ → Option State
high_step s side digit octet =
    if is_hex octet && is_hexed (16 * digit + digit_of octet)
    then kept s side (16 * digit + digit_of octet)
    else None

abbrev pub piece_step : State → Side → Part → ℕ → Option State
piece_step s side Part.Fresh octet = fresh_step s side octet
piece_step s side Part.Slash octet = slash_step s side octet
piece_step s side (Part.High digit) octet = high_step s side digit octet

-- ---- the first line, and the beginnings of lines

-- one more octet of the first line of a role
abbrev pub after_first : State → Role → ℕ → State
after_first s role count =
    if count == length (first_line role)
    then record s { mode = Mode.Start; role = role }
    else moved s (Mode.First role count)

-- the two first lines are the same for 14 octets; then the letter of the role follows
abbrev pub first_step : State → Role → ℕ → ℕ → Option State
first_step s role count octet =
    if octet == slice_index (first_line role) count then Some (after_first s role (count + 1))
    else if count == 14 && octet == 108 then Some (moved s (Mode.First Role.Listener 15))
    else None

abbrev pub start_step : State → ℕ → Option State
start_step s octet =
    if octet == 87 then Some (moved s (Mode.Line Side.Sent))
    else if octet == 83 then Some (moved s Mode.Status)
    else if s.over then None
    else if octet == 82 then Some (moved s (Mode.Line Side.Received))
    else if octet == 81 then Some (moved s Mode.Quiet)
    else if octet == 69 then Some (moved s Mode.Ended)
    else None

abbrev pub line_step : State → Side → ℕ → Option State
line_step s side octet =
    if octet == 32 then Some (record s { mode = Mode.Piece side Part.Fresh; piece = [] }) else None

-- a line without octets ends
abbrev pub alone_step : State → Entry → Bool → ℕ → Option State
alone_step s entry over octet = if octet == 10 then Some (with_entry s entry over) else None

-- ---- a status

abbrev pub status_step : State → ℕ → Option State
status_step s octet = if octet == 32 then Some (moved s Mode.Code) else None

abbrev pub code_step : State → ℕ → Option State
code_step s octet =
    if nat_le 48 octet && nat_le octet 57
    then Some (moved s (Mode.Digits (octet - 48)))
    else None

abbrev pub digits_step : State → ℕ → ℕ → Option State
digits_step s code octet =
    if octet == 10 then Some (moved s (Mode.Over code))
    else if code == 1 && octet == 48 then Some (moved s (Mode.Digits 10))
    else if code == 1 && octet == 49 then Some (moved s (Mode.Digits 11))
    else None

-- ---- all of them

abbrev pub step_in : Mode → State → ℕ → Option State
step_in (Mode.First role count) s octet = first_step s role count octet
step_in Mode.Start s octet = start_step s octet
step_in (Mode.Line side) s octet = line_step s side octet
step_in (Mode.Piece side part) s octet = piece_step s side part octet
step_in Mode.Quiet s octet = alone_step s quiet s.over octet
step_in Mode.Ended s octet = alone_step s ended true octet
step_in Mode.Status s octet = status_step s octet
step_in Mode.Code s octet = code_step s octet
step_in (Mode.Digits code) s octet = digits_step s code octet
step_in (Mode.Over code) s octet = None

unfoldable pub step : State → ℕ → Option State
step s octet = step_in s.mode s octet

-- octets, one after another
abbrev pub step_from : Option State → ℕ → Option State
step_from None octet = None
step_from (Some s) octet = step s octet

abbrev pub run : Option State → List ℕ → Option State
run s [] = s
run s (octet ∷ octets) = run (step_from s octet) octets

-- the text may end here
abbrev pub may_end : Mode → Bool
may_end (Mode.First role count) = false
may_end Mode.Start = true
may_end (Mode.Line side) = false
may_end (Mode.Piece side part) = false
may_end Mode.Quiet = false
may_end Mode.Ended = false
may_end Mode.Status = false
may_end Mode.Code = false
may_end (Mode.Digits code) = false
may_end (Mode.Over code) = true
