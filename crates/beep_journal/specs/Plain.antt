-- What the values of the plain program stand for.
use Rattle.std.specs.Prelude.{◌==◌, ◌&&◌, List, [], ◌∷◌, map, Option, None, Some, option_map}
use Rattle.std.specs.List.{list_any}
use Rattle.beep_history.specs.Journal.{same_side}
use Rattle.beep_mgmt.specs.declared.mgmt.Mgmt.{Mgmt}
use Rattle.beep_mgmt.specs.Form.{Form, form_of}
use Rattle.beep_journal.specs.declared.event.LifeEvent.{LifeEvent}
use Rattle.beep_journal.specs.declared.verdict.StartPlace.{StartPlace}
use Rattle.beep_journal.specs.Broken.{Tuning}
use Rattle.beep_journal.specs.Lives.{Event, close_came, start_granted, close_granted}

-- the moment that a value in code stands for
abbrev pub event_of : LifeEvent → Event
event_of (LifeEvent.CloseCame side position number) = close_came side position number
event_of (LifeEvent.StartGranted number) = start_granted number
event_of (LifeEvent.CloseGranted side position number) = close_granted side position number

-- the moments that a list stands for, the latest first in both
abbrev pub events_of : List LifeEvent → List Event
events_of events = map event_of events

-- what a list of messages in code says, one after the other
abbrev pub forms_of : List (Option Mgmt) → List (Option Form)
forms_of messages = map (option_map form_of) messages

-- what a message that is lent says
abbrev pub form_in : Option Mgmt → Option Form
form_in message = option_map form_of message

-- the moments that one or none stands for
abbrev pub events_in : Option LifeEvent → List Event
events_in None = []
events_in (Some event) = event_of event ∷ []

-- the starts that a list names are tuning
abbrev pub tunes_of : List StartPlace → Tuning
tunes_of starts side position =
    list_any (λ start. same_side side start.0 && start.1 == position) starts
