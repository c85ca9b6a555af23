-- What a decoder has read and what it keeps: the frames of the octets that it was fed, and the
-- payload of the last header's frame.
-- The code keeps one payload and no frame. A caller uses Decoding as a word, and opens it by the
-- laws alone.
use Rattle.std.specs.Prelude.{◌≡◌, ℕ, ◌+◌, ◌≤◌, Bool, true, false, Option, Some, None, List, [], ◌∷◌, ◌++◌, length, take, drop}
use Rattle.beep_frame.specs.declared.head.Head.{Head}
use Rattle.beep_frame.specs.declared.rule.Rule.{Rule}
use Rattle.beep_octets.specs.Held.{Held}
use Rattle.beep_frame.specs.Frame.{Frame, framed}
use Rattle.beep_frame.specs.Spelling.{header}
use Rattle.beep_frame.specs.Fed.{Fed}
use Rattle.beep_frame.specs.Tracks.{TrackerState, Tracks, HasStopped}

-- a decoder, apart from how it lies in memory
pub record DecoderState : Type 0 where
  pub tracker : TrackerState
  pub head : Head
  pub payload : Held
  pub whole : Bool

-- the octets of a payload among those since the last whole frame
abbrev pub payload_in : Head → List ℕ → List ℕ
payload_in head rest = take head.size (drop (length (header head)) rest)

-- it keeps the header of the rest and the payload so far; between headers those of the last frame,
-- where the last step answered a data frame
abbrev pub Keeps : DecoderState → List Frame → List ℕ → Option Head → Type 0
Keeps decoder frames rest None =
    decoder.whole ≡ true → (before : List Frame) (head : Head) (payload : List ℕ)
    → frames ≡ before ++ framed head payload ∷ []
    → (decoder.head ≡ head) × (decoder.payload.octets ≡ payload)
Keeps decoder frames rest (Some head) =
    (decoder.head ≡ head) × (decoder.payload.octets ≡ payload_in head rest)

-- the decoder was fed so
pub record WasFed (decoder : DecoderState) (fed : Fed) : Type 0 where
  pub tracks : Tracks decoder.tracker fed
  pub keeps : Keeps decoder fed.frames fed.rest fed.head
  pub room : decoder.tracker.max ≤ length decoder.payload.octets + decoder.payload.spare

-- the stream broke this rule at this octet, and so many octets were used since the last whole frame
pub record IsBroken (decoder : DecoderState) (rule : Rule) (place left : ℕ) : Type 0 where
  pub stopped : HasStopped decoder.tracker rule place left
  pub none : decoder.whole ≡ false
