-- What a decoder found in the octets of a feed, for its proofs: each case over the octets since the
-- last whole frame.
use Rattle.std.specs.Prelude.{◌≡◌, ◌≢◌, ℕ, ◌<◌, Bool, true, nat_lt, Option, Some, None, List, [], ◌∷◌, ◌++◌, length, take, slice_index}
use Rattle.beep_frame.specs.declared.head.Head.{Head}
use Rattle.beep_frame.specs.declared.finder.Found.{Found}
use Rattle.beep_frame.specs.declared.finder.Place.{Place}
use Rattle.beep_frame.specs.declared.line.Line.{Line}
use Rattle.beep_frame.specs.Frame.{framed, seq_frame, IsFrame, IsHead, IsSeq}
use Rattle.beep_frame.specs.Spelling.{header, trailer, spelling}
use Rattle.beep_frame.specs.Line.{at_line, dead, line_start, line_turn}
use Rattle.beep_frame.specs.Reading.{run, At}

-- a place that a decoder can be at
abbrev pub is_place : Place → Bool
is_place Place.Line = true
is_place (Place.Payload left) = nat_lt 0 left
is_place (Place.Trailer count) = nat_lt count 5

-- the octet can't stand after these octets of a line
pub record DiesInLine (before : List ℕ) (octet : ℕ) : Type 0 where
  pub line : Line
  pub inside : run (at_line line_start) before ≡ at_line line
  pub dies : line_turn line octet ≡ dead

-- the octet can't stand after these octets, which end in a trailer's place
pub record DiesInTrailer (before : List ℕ) (octet : ℕ) : Type 0 where
  pub head : Head
  pub payload : List ℕ
  pub count : ℕ
  pub is_frame : IsFrame (framed head payload)
  pub fewer : count < 5
  pub whole : before ≡ header head ++ payload ++ take count trailer
  pub other : octet ≢ slice_index trailer count

-- a data frame is whole with these octets
pub record EndsFrame (octets : List ℕ) (known : Option Head) : Type 0 where
  pub head : Head
  pub payload : List ℕ
  pub known_is : known ≡ Some head
  pub is_frame : IsFrame (framed head payload)
  pub whole : octets ≡ spelling (framed head payload)

-- the octets end with one that can't stand in a line there
pub record EndsInLine (rest : List ℕ) (known : Option Head) (taken : List ℕ) : Type 0 where
  pub none : known ≡ None
  pub before : List ℕ
  pub octet : ℕ
  pub taken_is : taken ≡ before ++ octet ∷ []
  pub dies : DiesInLine (rest ++ before) octet

-- the octets end with one that can't stand in a trailer there
pub record EndsInTrailer (rest : List ℕ) (known : Option Head) (taken : List ℕ) : Type 0 where
  pub before : List ℕ
  pub octet : ℕ
  pub taken_is : taken ≡ before ++ octet ∷ []
  pub dies : DiesInTrailer (rest ++ before) octet
  pub known_is : known ≡ Some dies.head

-- what was found in the first of these octets, as many as were used, after the rest of the stream
abbrev pub Finds : Found → Place → Line → List ℕ → Option Head → List ℕ → ℕ → Type 0
Finds Found.More place line rest known octets used =
    (used ≡ length octets) × At place line (rest ++ octets) known
Finds (Found.Head head) place line rest known octets used =
    (known ≡ None) × IsHead head × (rest ++ take used octets ≡ header head)
Finds Found.Frame place line rest known octets used = EndsFrame (rest ++ take used octets) known
Finds (Found.Seq seq) place line rest known octets used =
    (known ≡ None) × IsSeq seq × (rest ++ take used octets ≡ spelling (seq_frame seq))
Finds Found.BadLine place line rest known octets used = EndsInLine rest known (take used octets)
Finds Found.BadTrailer place line rest known octets used =
    EndsInTrailer rest known (take used octets)
