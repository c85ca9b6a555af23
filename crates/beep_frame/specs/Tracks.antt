-- What a tracker has read: the frames of the octets that it was fed, and where it stands in the
-- next, for proofs.
-- The code keeps neither octets nor frames.
use Rattle.std.specs.Prelude.{◌≡◌, ℕ, ◌≤◌, Option, Some, None, ◌++◌, length}
use Rattle.std.specs.List.{flat_map, AllByRecursion}
use Rattle.beep_frame.specs.declared.head.Head.{Head}
use Rattle.beep_frame.specs.declared.rule.Rule.{Rule}
use Rattle.beep_frame.specs.declared.line.Line.{Line}
use Rattle.beep_frame.specs.declared.finder.Place.{Place}
use Rattle.beep_frame.specs.Frame.{IsFrame}
use Rattle.beep_frame.specs.Spelling.{spelling}
use Rattle.beep_frame.specs.Stream.{IsWithin}
use Rattle.beep_frame.specs.Reading.{At}
use Rattle.beep_frame.specs.Modulo.{modulo_2_64}
use Rattle.beep_frame.specs.Fed.{Fed}

-- a tracker, apart from how it lies in memory
pub record TrackerState : Type 0 where
  pub max : ℕ
  pub place : Place
  pub line : Line
  pub left : ℕ
  pub used : ℕ
  pub broken : Option (Rule × ℕ)

-- how many octets of a payload are still to come at a place
abbrev pub wanted_at : Place → ℕ
wanted_at Place.Line = 0
wanted_at (Place.Payload left) = left
wanted_at (Place.Trailer count) = 0

-- the header of a rest has at most so large a size
abbrev pub IsWithinSize : ℕ → Option Head → Type 0
IsWithinSize max None = Unit {0}
IsWithinSize max (Some head) = head.size ≤ max

-- the tracker was fed so
pub record Tracks (tracker : TrackerState) (fed : Fed) : Type 0 where
  pub goes_on : tracker.broken ≡ None
  pub whole : fed.octets ≡ flat_map spelling fed.frames ++ fed.rest
  pub each : AllByRecursion IsFrame fed.frames
  pub within : AllByRecursion (IsWithin tracker.max) fed.frames
  pub at : At tracker.place tracker.line fed.rest fed.head
  pub known_within : IsWithinSize tracker.max fed.head
  pub used : tracker.used ≡ modulo_2_64 (length fed.octets)
  pub left : tracker.left ≡ modulo_2_64 (length fed.rest)

-- the stream broke this rule at this octet, and so many octets were used since the last whole frame
pub record HasStopped (tracker : TrackerState) (rule : Rule) (place left : ℕ) : Type 0 where
  pub by : tracker.broken ≡ Some (rule, place)
  pub left_is : tracker.left ≡ left
