-- What a stream of octets is: whole frames, and less than one more (RFC 3080, section 2.2.1).
-- The definition is over the whole stream, so no cut of it into reads appears here.
use Rattle.std.specs.Prelude.{◌≡◌, ℕ, ◌<◌, ◌≤◌, ◌⊎◌, Option, Some, None, List, [], ◌∷◌, ◌++◌, length, take}
use Rattle.std.specs.List.{flat_map, AllByRecursion}
use Rattle.beep_frame.specs.declared.head.Head.{Head}
use Rattle.beep_frame.specs.declared.rule.Rule.{Rule}
use Rattle.beep_frame.specs.declared.spelling.TheConstants.{MAX_HEADER}
use Rattle.beep_frame.specs.Frame.{Frame, framed, seq_frame, IsHead, IsFrame}
use Rattle.beep_frame.specs.Spelling.{spelling, header, trailer}

-- less than a frame: the spelling of some frame has more octets after these
pub record IsUnfinished (octets : List ℕ) : Type 0 where
  pub frame : Frame
  pub is_frame : IsFrame frame
  pub next : ℕ
  pub others : List ℕ
  pub spelled : spelling frame ≡ octets ++ next ∷ others

-- the octets are these frames, one after another, and then less than a frame
pub record Stream (octets : List ℕ) (frames : List Frame) (rest : List ℕ) : Type 0 where
  pub whole : octets ≡ flat_map spelling frames ++ rest
  pub each : AllByRecursion IsFrame frames
  pub unfinished : IsUnfinished rest

-- some frames and some rest are these octets
abbrev pub IsAlive : List ℕ → Type 0
IsAlive octets = (frames : List Frame) × (rest : List ℕ) × Stream octets frames rest

-- the octets are alive, and with this octet after them they aren't, whatever follows it
pub record DiesAt (before : List ℕ) (octet : ℕ) : Type 0 where
  pub alive : IsAlive before
  pub dead : IsAlive (before ++ octet ∷ []) → ⊥

-- the next octet is one of a trailer: whole frames, a header, its payload and fewer than five
-- octets of the trailer came
pub record InTrailer (before : List ℕ) : Type 0 where
  pub frames : List Frame
  pub head : Head
  pub payload : List ℕ
  pub count : ℕ
  pub each : AllByRecursion IsFrame frames
  pub is_frame : IsFrame (framed head payload)
  pub fewer : count < 5
  pub whole : before ≡ flat_map spelling frames ++ (header head ++ payload ++ take count trailer)

-- ---- the header of a rest

-- no whole header begins these octets, which are fewer than the longest header has
pub record HasNoHead (rest : List ℕ) : Type 0 where
  pub short : length rest < MAX_HEADER
  pub none : (head : Head) (more : List ℕ) → IsHead head → rest ≡ header head ++ more → ⊥

-- this whole header begins these octets
pub record HasHead (rest : List ℕ) (head : Head) : Type 0 where
  pub is_head : IsHead head
  pub more : List ℕ
  pub begins : rest ≡ header head ++ more

-- the header of a rest, if that is whole
abbrev pub IsHeadOf : List ℕ → Option Head → Type 0
IsHeadOf rest None = HasNoHead rest
IsHeadOf rest (Some head) = HasHead rest head

-- the whole header that begins these octets has at most so large a size
abbrev pub BeginsWithin : ℕ → List ℕ → Type 0
BeginsWithin max rest =
    (head : Head) (more : List ℕ) → IsHead head → rest ≡ header head ++ more → head.size ≤ max

-- ---- frames of which each is taken

-- the payload has at most so many octets
abbrev pub IsWithin : ℕ → Frame → Type 0
IsWithin max (framed head payload) = head.size ≤ max
IsWithin max (seq_frame seq) = Unit {0}

-- what an octet after these octets breaks: the stream is dead there, outside a trailer's place or
-- in one; or it ends a header whose size is above the limit
abbrev pub BreaksBy : Rule → ℕ → List ℕ → List Frame → ℕ → Type 0
BreaksBy rule max before frames octet =
    ((rule ≡ Rule.Header) × DiesAt before octet × (InTrailer before → ⊥))
    ⊎ ((rule ≡ Rule.Trailer) × DiesAt before octet × InTrailer before)
    ⊎ ((rule ≡ Rule.Size) × (head : Head) × IsHead head × (max < head.size)
    × (before ++ octet ∷ [] ≡ flat_map spelling frames ++ header head))
