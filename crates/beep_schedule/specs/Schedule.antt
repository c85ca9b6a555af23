-- The text of a schedule: which events it says (docs/FORMATS.md, "Schedules").
-- The reader goes over the text line by line; here it is the lines of a list of events.
use Rattle.std.specs.Prelude.{◌≡◌, ℕ, List, ◌∷◌, [], ◌++◌, flat_map, codes}
use Rattle.beep_schedule.specs.declared.event.PairEvent.{PairEvent}
use Rattle.beep_schedule.specs.Events.{event_text, AreEvents}

-- the first line
abbrev pub first_line : List ℕ
first_line = codes "beep-schedule 1\n"

-- the line of an event
abbrev pub event_line : PairEvent → List ℕ
event_line event = event_text event ++ 10 ∷ []

-- the first line, and a line for each event
abbrev pub schedule_text : List PairEvent → List ℕ
schedule_text events = first_line ++ flat_map event_line events

-- the text says these events
pub record Says (text : List ℕ) (events : List PairEvent) : Type 0 where
  pub valid : AreEvents events
  pub text_is : text ≡ schedule_text events
