-- What a tracker answers to what was found, and what it is then: for its proofs.
use Rattle.std.specs.Prelude.{◌≡◌, ℕ, ◌+◌, ◌-◌, ◌==◌, nat_lt, if◌then◌else◌, Some, List, ◌++◌, length}
use Rattle.beep_octets.specs.Numbers.{numbers_64}
use Rattle.beep_frame.specs.declared.rule.Rule.{Rule}
use Rattle.beep_frame.specs.declared.line.Line.{Line}
use Rattle.beep_frame.specs.declared.step.Step.{Step}
use Rattle.beep_frame.specs.declared.finder.Found.{Found}
use Rattle.beep_frame.specs.declared.finder.Place.{Place}
use Rattle.beep_frame.specs.Spelling.{trailer}
use Rattle.beep_frame.specs.Line.{line_start}
use Rattle.beep_frame.specs.Modulo.{modulo_2_64}
use Rattle.beep_frame.specs.Tracks.{TrackerState}

-- so many octets were used, and led there
abbrev pub moved : TrackerState → Place → Line → ℕ → TrackerState
moved d place line count =
    record d {
      place = place;
      line = line;
      left = modulo_2_64 (d.left + count);
      used = modulo_2_64 (d.used + count);
    }

-- where the next octet stands after a header
abbrev pub after_header : ℕ → Place
after_header size = if size == 0 then Place.Trailer 0 else Place.Payload size

-- the number of the octet that was used last
abbrev pub last_number : ℕ → ℕ
last_number used = modulo_2_64 (used + (numbers_64 - 1))

abbrev pub broken_by : TrackerState → Rule → TrackerState
broken_by d rule = record d { broken = Some (rule, last_number d.used) }

-- the tracker between two frames
abbrev pub renewed : TrackerState → TrackerState
renewed d = record d { place = Place.Line; line = line_start; left = 0 }

-- the octets hold a whole payload of this size and its trailer, and none of the payload came before
pub record TakesWhole (old new : TrackerState) (size : ℕ) (octets : List ℕ) (count : ℕ)
    (payload : List ℕ) : Type 0 where
  pub at : old.place ≡ Place.Payload size
  pub sized : length payload ≡ size
  pub rest : List ℕ
  pub octets_are : octets ≡ payload ++ trailer ++ rest
  pub count_is : count ≡ size + 5
  pub new_is : new ≡ renewed (moved old Place.Line line_start count)

-- the answer
abbrev pub step_of : TrackerState → Found → Step
step_of d Found.More = Step.More
step_of d (Found.Head head) =
    if nat_lt d.max head.size then Step.Broken Rule.Size (last_number d.used) else Step.Head head
step_of d Found.Frame = Step.Frame
step_of d (Found.Seq seq) = Step.Seq seq
step_of d Found.BadLine = Step.Broken Rule.Header (last_number d.used)
step_of d Found.BadTrailer = Step.Broken Rule.Trailer (last_number d.used)

-- the tracker after it
abbrev pub after_found : TrackerState → Found → TrackerState
after_found d Found.More = d
after_found d (Found.Head head) =
    if nat_lt d.max head.size then broken_by d Rule.Size
    else record d { place = after_header head.size }
after_found d Found.Frame = renewed d
after_found d (Found.Seq seq) = renewed d
after_found d Found.BadLine = broken_by d Rule.Header
after_found d Found.BadTrailer = broken_by d Rule.Trailer
