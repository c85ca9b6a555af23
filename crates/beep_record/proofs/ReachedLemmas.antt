-- Which octets lead to a state of the machine.
use Rattle.std.proofs.Common.{◌≡◌, ℕ, ◌<◌, ◌≤◌, Bool, true, false, List, [], ◌∷◌, ◌++◌, length, take, Option, Some, None}
use Rattle.std.specs.Fmt.{decimal}
use Rattle.beep_history.specs.declared.journal.Side.{Side}
use Rattle.beep_journal.specs.declared.role.Role.{Role}
use Rattle.beep_record.specs.declared.limits.TheConstants.{MAX_ENTRY, MAX_STATUS}
use Rattle.beep_record.specs.declared.mode.Mode.{Mode}
use Rattle.beep_record.specs.declared.mode.Part.{Part}
use Rattle.beep_record.specs.Record.{hex_digit, octets_text, log_text, first_line, has_ended, are_octets, IsLog}
use Rattle.beep_record.specs.Machine.{State, is_high}

-- the lines before the one that is under way
abbrev pub before : State → List ℕ
before s = first_line s.role ++ log_text s.log

-- the letter of a piece
abbrev pub letter : Side → ℕ
letter Side.Received = 82
letter Side.Sent = 87

-- a piece, and what came of its next octet
abbrev pub piece_text : Part → List ℕ → List ℕ
piece_text Part.Fresh piece = octets_text piece
piece_text Part.Slash piece = octets_text piece ++ 92 ∷ []
piece_text (Part.High digit) piece = octets_text piece ++ 92 ∷ hex_digit digit ∷ []

-- a line of a side may come where this says whether the end came
abbrev pub MayCome : Side → Bool → Type 0
MayCome Side.Received over = over ≡ false
MayCome Side.Sent over = Unit {0}

-- the piece has room for the octet that has begun
abbrev pub HasRoom : Part → List ℕ → Type 0
HasRoom Part.Fresh piece = length piece ≤ MAX_ENTRY
HasRoom Part.Slash piece = length piece < MAX_ENTRY
HasRoom (Part.High digit) piece = (length piece < MAX_ENTRY) × (digit < 16) × (is_high digit ≡ true)

-- the lines before are those of a record
pub record IsKept (s : State) : Type 0 where
  pub log : IsLog s.log
  pub over : s.over ≡ has_ended s.log

-- the first line is under way
pub record InFirst (role : Role) (count : ℕ) (s : State) (t : List ℕ) : Type 0 where
  pub within : count < length (first_line role)
  pub log : s.log ≡ []
  pub over : s.over ≡ false
  pub text : t ≡ take count (first_line role)

-- after the lines, these octets came
pub record After (line : List ℕ) (s : State) (t : List ℕ) : Type 0 where
  pub kept : IsKept s
  pub text : t ≡ before s ++ line

-- these too, where the end has not come
pub record AfterRead (line : List ℕ) (s : State) (t : List ℕ) : Type 0 where
  pub kept : IsKept s
  pub going : s.over ≡ false
  pub text : t ≡ before s ++ line

pub record InLine (side : Side) (s : State) (t : List ℕ) : Type 0 where
  pub kept : IsKept s
  pub may : MayCome side s.over
  pub text : t ≡ before s ++ letter side ∷ []

pub record InPiece (side : Side) (part : Part) (s : State) (t : List ℕ) : Type 0 where
  pub kept : IsKept s
  pub may : MayCome side s.over
  pub are : are_octets s.piece ≡ true
  pub room : HasRoom part s.piece
  pub text : t ≡ before s ++ (letter side ∷ 32 ∷ piece_text part s.piece)

-- digits of a status, or its whole line
pub record InStatus (code : ℕ) (line : List ℕ) (s : State) (t : List ℕ) : Type 0 where
  pub kept : IsKept s
  pub within : code ≤ MAX_STATUS
  pub text : t ≡ before s ++ line

abbrev pub ReachedIn : Mode → State → List ℕ → Type 0
ReachedIn (Mode.First role count) s t = InFirst role count s t
ReachedIn Mode.Start s t = After [] s t
ReachedIn (Mode.Line side) s t = InLine side s t
ReachedIn (Mode.Piece side part) s t = InPiece side part s t
ReachedIn Mode.Quiet s t = AfterRead (81 ∷ []) s t
ReachedIn Mode.Ended s t = AfterRead (69 ∷ []) s t
ReachedIn Mode.Status s t = After (83 ∷ []) s t
ReachedIn Mode.Code s t = After (83 ∷ 32 ∷ []) s t
ReachedIn (Mode.Digits code) s t = InStatus code (83 ∷ 32 ∷ decimal code) s t
ReachedIn (Mode.Over code) s t = InStatus code (83 ∷ 32 ∷ (decimal code ++ 10 ∷ [])) s t

-- the octets lead to the state
abbrev pub Reached : State → List ℕ → Type 0
Reached s t = ReachedIn s.mode s t

-- what a step leads to
abbrev pub Stepped : List ℕ → Option State → Type 0
Stepped t None = Unit {0}
Stepped t (Some s) = Reached s t
