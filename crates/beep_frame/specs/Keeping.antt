-- What a decoder keeps of a step, for its proofs.
use Rattle.std.specs.Prelude.{◌≡◌, ℕ, ◌≤◌, Bool, true, false, List, [], ◌++◌, length}
use Rattle.beep_frame.specs.declared.step.Step.{Step}
use Rattle.beep_octets.specs.Held.{KeepsRoom}
use Rattle.beep_frame.specs.Decoding.{DecoderState}

-- the step is a whole data frame
abbrev pub is_frame : Step → Bool
is_frame Step.More = false
is_frame (Step.Head head) = false
is_frame Step.Frame = true
is_frame (Step.Seq seq) = false
is_frame (Step.Broken rule place) = false

-- octets were added to the payload, where they find room
pub record Added (old new octets : List ℕ) (spare : ℕ) : Type 0 where
  pub adds : length octets ≤ spare → new ≡ old ++ octets

-- what happens to the header and the payload
abbrev pub Kept : Step → DecoderState → DecoderState → List ℕ → Type 0
Kept Step.More old new octets =
    (new.head ≡ old.head) × Added old.payload.octets new.payload.octets octets old.payload.spare
Kept (Step.Head head) old new octets = (new.head ≡ head) × (new.payload.octets ≡ [])
Kept Step.Frame old new octets =
    (new.head ≡ old.head) × Added old.payload.octets new.payload.octets octets old.payload.spare
Kept (Step.Seq seq) old new octets = (new.head ≡ old.head) × (new.payload ≡ old.payload)
Kept (Step.Broken rule place) old new octets = (new.head ≡ old.head) × (new.payload ≡ old.payload)

-- a step is kept, and the tracker stays
pub record Keeping (step : Step) (old new : DecoderState) (octets : List ℕ) : Type 0 where
  pub tracker : new.tracker ≡ old.tracker
  pub whole : new.whole ≡ is_frame step
  pub kept : Kept step old new octets
  pub room : KeepsRoom old.payload new.payload
