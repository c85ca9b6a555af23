-- The state of the machine that a reader keeps.
use Rattle.std.specs.Prelude.{◌≡◌, ℕ, ◌<◌, List, Bool, if◌then◌else◌, length, Option, Some, None}
use Rattle.beep_record.specs.declared.reader.Reader.{Reader}
use Rattle.beep_record.specs.declared.mode.Mode.{Mode}
use Rattle.beep_record.specs.declared.mode.Part.{Part}
use Rattle.beep_record.specs.Record.{first_line}
use Rattle.beep_record.specs.Machine.{State}

-- the state of a reader
abbrev pub state_of : Reader → State
state_of r =
    record { mode = r.mode; role = r.role; over = r.over; log = r.entries; piece = r.piece.octets }

-- the same with this piece under way
abbrev pub with_piece : State → List ℕ → State
with_piece s piece = record s { piece = piece }

-- the reader took the step, or there is none
abbrev pub Steps : Option State → Bool → State → Type 0
Steps next went s = next ≡ (if went then Some s else None)

-- the numbers of a place are in their ranges
abbrev pub IsNumbered : Mode → Type 0
IsNumbered (Mode.First role count) = count < length (first_line role)
IsNumbered Mode.Start = Unit {0}
IsNumbered (Mode.Line side) = Unit {0}
IsNumbered (Mode.Piece side Part.Fresh) = Unit {0}
IsNumbered (Mode.Piece side Part.Slash) = Unit {0}
IsNumbered (Mode.Piece side (Part.High digit)) = digit < 16
IsNumbered Mode.Quiet = Unit {0}
IsNumbered Mode.Ended = Unit {0}
IsNumbered Mode.Status = Unit {0}
IsNumbered Mode.Code = Unit {0}
IsNumbered (Mode.Digits code) = Unit {0}
IsNumbered (Mode.Over code) = Unit {0}
