-- What the plain reading of a short list of octets answers: its frames, its rest, and the octet at
-- which it is dead (RFC 3080, section 2.2.1).
-- It is the definition of a stream as an answer; a session's decoder keeps no frame.
use Rattle.std.specs.Prelude.{◌≡◌, ℕ, ◌⊎◌, Option, Some, None, List, ◌∷◌, ◌++◌, map, length}
use Rattle.beep_frame.specs.declared.rule.Rule.{Rule}
use Rattle.beep_frame.specs.declared.outline.Outline.{Outline}
use Rattle.beep_frame.specs.declared.outline.PlainFrame.{PlainFrame}
use Rattle.beep_frame.specs.Frame.{Frame, framed, seq_frame}
use Rattle.beep_frame.specs.Stream.{Stream, DiesAt, InTrailer}

-- a frame, apart from how it lies in memory
abbrev pub frame_of : PlainFrame → Frame
frame_of (PlainFrame.Data head payload) = framed head payload.octets
frame_of (PlainFrame.Seq seq) = seq_frame seq

-- frames, apart from how they lie in memory
abbrev pub frames_of : List PlainFrame → List Frame
frames_of frames = map frame_of frames

-- the rule by which a stream dies after these octets: Trailer in a trailer's place, otherwise
-- Header
abbrev pub DiesBy : Rule → List ℕ → Type 0
DiesBy rule before =
    ((rule ≡ Rule.Trailer) × InTrailer before) ⊎ ((rule ≡ Rule.Header) × (InTrailer before → ⊥))

-- the octets are these frames and so many octets more
pub record IsWhole (octets : List ℕ) (frames : List Frame) (count : ℕ) : Type 0 where
  pub rest : List ℕ
  pub stream : Stream octets frames rest
  pub count_is : count ≡ length rest

-- the stream is dead at the octet of this number, by this rule, after these frames and so many
-- octets more
pub record IsDead (rule : Rule) (place : ℕ) (octets : List ℕ) (frames : List Frame) (count : ℕ)
    : Type 0 where
  pub before : List ℕ
  pub octet : ℕ
  pub more : List ℕ
  pub octets_are : octets ≡ before ++ octet ∷ more
  pub place_is : place ≡ length before
  pub whole : IsWhole before frames count
  pub dies : DiesAt before octet
  pub by : DiesBy rule before

-- the octets are alive, or dead by this rule at this place
abbrev pub OutlinesBy : Option (Rule × ℕ) → List ℕ → List Frame → ℕ → Type 0
OutlinesBy None octets frames count = IsWhole octets frames count
OutlinesBy (Some dead) octets frames count = IsDead dead.0 dead.1 octets frames count

-- the answer is what these octets are
abbrev pub Outlines : Outline → List ℕ → Type 0
Outlines outline octets =
    OutlinesBy outline.dead octets (frames_of outline.frames.items) outline.rest
