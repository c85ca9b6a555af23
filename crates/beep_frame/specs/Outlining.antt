-- What a plain reading holds after each step of its tracker, for its proofs.
use Rattle.std.specs.Prelude.{◌≡◌, ℕ, ◌+◌, ◌≤◌, Option, Some, None, List, [], ◌∷◌, ◌++◌, length, take, drop}
use Rattle.std.specs.List.{flat_map}
use Rattle.beep_frame.specs.declared.head.Head.{Head}
use Rattle.beep_frame.specs.declared.head.TheConstants.{MAX_NUMBER}
use Rattle.beep_frame.specs.declared.step.Step.{Step}
use Rattle.beep_frame.specs.declared.outline.PlainFrame.{PlainFrame}
use Rattle.beep_frame.specs.declared.outline.Begun.{Begun}
use Rattle.beep_frame.specs.declared.outline.Reading.{Reading}
use Rattle.beep_octets.specs.Held.{Held}
use Rattle.beep_frame.specs.Frame.{Frame}
use Rattle.beep_frame.specs.Spelling.{header, spelling}
use Rattle.beep_frame.specs.Tracks.{Tracks}
use Rattle.beep_frame.specs.Outline.{frames_of}
use Rattle.beep_frame.specs.Fed.{fed_of}

-- the header of the rest, and the octets up to its end
abbrev pub Notes : Option Begun → List Frame → Option Head → Type 0
Notes None frames known = known ≡ None
Notes (Some begun) frames known =
    (known ≡ Some begun.head) × (begun.body
    ≡ length (flat_map spelling frames ++ header begun.head))

-- the reading has read these octets
pub record Holds (reading : Reading) (fed : List ℕ) : Type 0 where
  pub rest : List ℕ
  pub known : Option Head
  pub stands : Tracks reading.tracker (fed_of fed (frames_of reading.frames.items) rest known)
  pub max : reading.tracker.max ≡ MAX_NUMBER
  pub notes : Notes reading.begun (frames_of reading.frames.items) known

-- the payload that ends lies within so many octets
abbrev pub HasRoom : Step → Option Begun → ℕ → Type 0
HasRoom Step.More begun count = Unit {0}
HasRoom (Step.Head head) begun count = Unit {0}
HasRoom Step.Frame None count = Unit {0}
HasRoom Step.Frame (Some begun) count = begun.body + begun.head.size ≤ count
HasRoom (Step.Seq seq) begun count = Unit {0}
HasRoom (Step.Broken rule place) begun count = Unit {0}

-- one frame more, and none is begun
pub record Adds (frame : PlainFrame) (old new : Reading) : Type 0 where
  pub frames : new.frames.items ≡ old.frames.items ++ frame ∷ []
  pub tracker : new.tracker ≡ old.tracker
  pub begun : new.begun ≡ None

-- the data frame that was begun has ended
abbrev pub Ends : Option Begun → Reading → Reading → List ℕ → Type 0
Ends None old new read = new ≡ old
Ends (Some begun) old new read =
    (payload : Held) × (payload.octets ≡ take begun.head.size (drop begun.body read))
    × Adds (PlainFrame.Data begun.head payload) old new

-- what a step does to a reading
abbrev pub Follows : Step → Reading → Reading → List ℕ → Type 0
Follows Step.More old new read = new ≡ old
Follows (Step.Head head) old new read =
    new ≡ record old { begun = Some (record { head = head; body = length read }) }
Follows Step.Frame old new read = Ends old.begun old new read
Follows (Step.Seq seq) old new read = Adds (PlainFrame.Seq seq) old new
Follows (Step.Broken rule place) old new read = new ≡ old
