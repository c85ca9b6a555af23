-- Where the octets since the last whole frame stand: the decoder's place and line, for its proofs.
use Rattle.std.specs.Prelude.{◌≡◌, ℕ, ◌+◌, ◌-◌, ◌<◌, Option, Some, None, List, [], ◌∷◌, ◌++◌, length, take}
use Rattle.beep_frame.specs.declared.head.Head.{Head}
use Rattle.beep_frame.specs.declared.finder.Place.{Place}
use Rattle.beep_frame.specs.declared.line.Line.{Line}
use Rattle.beep_frame.specs.declared.finder.Found.{Found}
use Rattle.beep_frame.specs.Frame.{IsHead}
use Rattle.beep_frame.specs.Spelling.{header, trailer}
use Rattle.beep_frame.specs.Line.{Turn, at_line, at_head, at_seq, dead, line_start, line_turn}

-- the next octet, wherever the octets before it lead
abbrev pub turn : Turn → ℕ → Turn
turn (at_line line) c = line_turn line c
turn (at_head head) c = dead
turn (at_seq seq) c = dead
turn dead c = dead

-- where further octets lead
abbrev pub run : Turn → List ℕ → Turn
run t [] = t
run t (c ∷ cs) = run (turn t c) cs

-- a whole header came, and this of its payload
pub record PayloadOf (rest : List ℕ) (known : Option Head) (head : Head) (payload : List ℕ)
    : Type 0 where
  pub known_is : known ≡ Some head
  pub is_head : IsHead head
  pub rest_is : rest ≡ header head ++ payload

-- where the octets since the last whole frame lead, and the header among them
abbrev pub At : Place → Line → List ℕ → Option Head → Type 0
At Place.Line line rest known = (run (at_line line_start) rest ≡ at_line line) × (known ≡ None)
At (Place.Payload left) line rest known =
    (head : Head) × (payload : List ℕ) × PayloadOf rest known head payload
    × (length payload + left ≡ head.size) × (0 < left)
At (Place.Trailer count) line rest known =
    (head : Head) × (payload : List ℕ) × PayloadOf rest known head (payload ++ take count trailer)
    × (length payload ≡ head.size) × (count < 5)

-- ---- a line's octets

-- the octet before the last one left the line unfinished
pub record StopsAt (old : Line) (octets : List ℕ) (used : ℕ) : Type 0 where
  pub some : 0 < used
  pub before : Line
  pub inside : run (at_line old) (take (used - 1) octets) ≡ at_line before

-- how many octets a line takes: all of them while it goes on, otherwise up to its end
abbrev pub TakesLine : Found → Line → List ℕ → ℕ → Type 0
TakesLine Found.More old octets used = used ≡ length octets
TakesLine (Found.Head head) old octets used = StopsAt old octets used
TakesLine Found.Frame old octets used = ⊥
TakesLine (Found.Seq seq) old octets used = StopsAt old octets used
TakesLine Found.BadLine old octets used = StopsAt old octets used
TakesLine Found.BadTrailer old octets used = ⊥
