-- What a feed answers, by what was heard.
use Rattle.std.specs.Prelude.{Bool, true, false}
use Rattle.beep_giving.specs.beep_hearing.specs.declared.heard.Heard.{Heard}
use Rattle.beep_session.specs.declared.event.Event.{Event}

-- octets were used, and no rule is broken by them: a frame or a message ended, or all octets are
-- used
abbrev pub is_going : Event → Bool
is_going Event.More = true
is_going (Event.Arrived number) = true
is_going Event.Zero = true
is_going Event.Released = false
is_going (Event.Broken rule place) = false
is_going Event.NoMemory = false

-- the event of what was heard
abbrev pub event_of : Heard → Event
event_of Heard.More = Event.More
event_of (Heard.Arrived number) = Event.Arrived number
event_of (Heard.Zero head) = Event.Zero
event_of (Heard.Broken rule place) = Event.Broken rule place
event_of Heard.NoMemory = Event.NoMemory
