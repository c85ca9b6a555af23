-- The first line of a text that is no line of a schedule (docs/FORMATS.md, "Schedules").
use Rattle.std.specs.Prelude.{◌≡◌, ℕ, ◌+◌, ◌==◌, IsTrue, List, [], ◌∷◌, ◌++◌, length, if◌then◌else◌, Option, None, Some}
use Rattle.beep_schedule.specs.declared.event.PairEvent.{PairEvent}
use Rattle.beep_schedule.specs.declared.read.ScheduleError.{ScheduleError}
use Rattle.beep_schedule.specs.Events.{is_event, AreEvents}
use Rattle.beep_schedule.specs.Schedule.{first_line, event_line, schedule_text}

-- the first line of octets: those up to the first LF, and it, or all where there is none
abbrev pub line_of : List ℕ → List ℕ
line_of [] = []
line_of (octet ∷ octets) = if octet == 10 then octet ∷ [] else octet ∷ line_of octets

-- what stands before a line: nothing, or the first line and those of valid events
abbrev pub AreBefore : Option (List PairEvent) → Type 0
AreBefore None = Unit {0}
AreBefore (Some events) = AreEvents events

abbrev pub text_before : Option (List PairEvent) → List ℕ
text_before None = []
text_before (Some events) = schedule_text events

-- the number of the line after them, from 1
abbrev pub line_after : Option (List PairEvent) → ℕ
line_after None = 1
line_after (Some events) = length events + 2

-- the line may stand after them
abbrev pub MayFollow : Option (List PairEvent) → List ℕ → Type 0
MayFollow None line = line ≡ first_line
MayFollow (Some events) line =
    (event : PairEvent) × IsTrue (is_event event) × (line ≡ event_line event)

-- something stands after them; before the first line something is wanting even where nothing does
abbrev pub IsWanting : Option (List PairEvent) → List ℕ → Type 0
IsWanting None rest = Unit {0}
IsWanting (Some events) rest = rest ≡ [] → ⊥

-- the lines before line `number` are those of a schedule, and it is not
pub record IsBadAt (text : List ℕ) (number : ℕ) : Type 0 where
  pub before : Option (List PairEvent)
  pub are : AreBefore before
  pub rest : List ℕ
  pub text_is : text ≡ text_before before ++ rest
  pub number_is : number ≡ line_after before
  pub wanting : IsWanting before rest
  pub bad : MayFollow before (line_of rest) → ⊥

-- why a text is refused
abbrev pub Refuses : List ℕ → ScheduleError → Type 0
Refuses text (ScheduleError.BadSchedule number) = IsBadAt text number
Refuses text ScheduleError.NoMemory = Unit {0}
