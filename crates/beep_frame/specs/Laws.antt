-- What the definitions of a stream and of a decoder mean, in words that need neither.
use Rattle.std.specs.Prelude.{◌≡◌, ℕ, List, [], ◌∷◌, ◌++◌}
use Rattle.std.specs.List.{AllByRecursion}
use Rattle.beep_frame.specs.Frame.{Frame, IsFrame}
use Rattle.beep_frame.specs.Spelling.{spelling}
use Rattle.beep_frame.specs.Stream.{Stream, IsAlive, IsWithin, IsHeadOf, BeginsWithin}
use Rattle.beep_frame.specs.Decoding.{DecoderState}
use Rattle.beep_frame.specs.Fed.{Fed}

-- the frames and the rest of a stream are unique
abbrev pub OneReading : Type 0
OneReading =
    (octets : List ℕ) (fs gs : List Frame) (r s : List ℕ) → Stream octets fs r → Stream octets gs s
    → (fs ≡ gs) × (r ≡ s)

-- no spelling is a proper prefix of another
abbrev pub NoneBeginsAnother : Type 0
NoneBeginsAnother =
    (f g : Frame) (more : List ℕ) → IsFrame f → IsFrame g → spelling f ≡ spelling g ++ more
    → (f ≡ g) × (more ≡ [])

-- what is alive stays alive in each prefix
abbrev pub StaysAlive : Type 0
StaysAlive = (octets more : List ℕ) → IsAlive (octets ++ more) → IsAlive octets

-- a decoder that was fed so has read a stream of these frames and this rest, with the rest's
-- header, each within its limit
pub record Means (decoder : DecoderState) (fed : Fed) : Type 0 where
  pub stream : Stream fed.octets fed.frames fed.rest
  pub within : AllByRecursion (IsWithin decoder.tracker.max) fed.frames
  pub is_head : IsHeadOf fed.rest fed.head
  pub begins_within : BeginsWithin decoder.tracker.max fed.rest

-- a stream that begins with a frame's spelling is that frame, and then a stream of what follows
abbrev pub ReadAsItsFrame : Type 0
ReadAsItsFrame =
    (f : Frame) (more : List ℕ) (frames : List Frame) (rest : List ℕ) → IsFrame f
    → Stream (spelling f ++ more) frames rest → (others : List Frame) × (frames ≡ f ∷ others)
    × Stream more others rest

-- a frame's spelling before a stream is a stream of that frame and the others
abbrev pub BeginsAStream : Type 0
BeginsAStream =
    (f : Frame) (more : List ℕ) (others : List Frame) (rest : List ℕ) → IsFrame f
    → Stream more others rest → Stream (spelling f ++ more) (f ∷ others) rest
