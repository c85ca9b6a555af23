-- The events of a schedule, each as its one text, and which are valid (docs/FORMATS.md,
-- "Schedules").
-- The reader goes over a line from its beginning; here a line is the text of a value.
use Rattle.std.specs.Prelude.{ℕ, ◌%◌, Bool, ◌&&◌, nat_le, ◌==◌, IsTrue, List, [], ◌∷◌, ◌++◌, codes}
use Rattle.std.specs.Fmt.{decimal}
use Rattle.beep_schedule.specs.declared.event.End.{End}
use Rattle.beep_schedule.specs.declared.event.Act.{Act}
use Rattle.beep_schedule.specs.declared.event.PairEvent.{PairEvent}
use Rattle.beep_frame.specs.declared.head.TheConstants.{MAX_NUMBER}
use Rattle.beep_settings.specs.declared.limits.TheConstants.{MAX_PIECE}
use Rattle.beep_schedule.specs.declared.limits.TheConstants.{MAX_LEN, MAX_FILL, MAX_COUNT}

-- ---- the text

-- a number after a space
abbrev pub field : ℕ → List ℕ
field n = 32 ∷ decimal n

abbrev pub end_text : End → List ℕ
end_text End.A = codes "A"
end_text End.B = codes "B"

-- the text of an act, after its end
abbrev pub act_text : Act → ℕ → ℕ → ℕ → List ℕ
act_text Act.Start channel len fill = codes " start" ++ field channel
act_text Act.Ask channel len fill = codes " ask" ++ field channel ++ field len ++ field fill
act_text Act.Reply channel len fill = codes " reply" ++ field channel ++ field len ++ field fill
act_text Act.Refuse channel len fill = codes " refuse" ++ field channel ++ field len ++ field fill
act_text Act.Answer channel len fill = codes " answer" ++ field channel ++ field len ++ field fill
act_text Act.Done channel len fill = codes " done" ++ field channel
act_text Act.Close channel len fill = codes " close" ++ field channel
act_text Act.Release channel len fill = codes " release"

-- the text of an event
abbrev pub event_text : PairEvent → List ℕ
event_text (PairEvent.Do at act channel len fill) = end_text at ++ act_text act channel len fill
event_text (PairEvent.Send at max) = end_text at ++ (codes " send" ++ field max)
event_text (PairEvent.Get at count) = end_text at ++ (codes " get" ++ field count)
event_text (PairEvent.Take at channel count) =
    end_text at ++ (codes " take" ++ field channel ++ field count)
event_text (PairEvent.Drain max piece) = codes "drain" ++ field max ++ field piece

-- ---- which are valid

-- a number lies from one to another
abbrev pub is_from_to : ℕ → ℕ → ℕ → Bool
is_from_to least most n = nat_le least n && nat_le n most

-- a channel above zero
abbrev pub is_above : ℕ → Bool
is_above channel = is_from_to 1 MAX_NUMBER channel

-- the numbers that an end may start: A the odd ones, B the even ones (RFC 3080, section 2.3.1.2)
abbrev pub is_of : End → ℕ → Bool
is_of End.A channel = (channel % 2) == 1
is_of End.B channel = (channel % 2) == 0

-- the length and fill of a message, with at least so many octets
abbrev pub is_message : ℕ → ℕ → ℕ → Bool
is_message least len fill = is_from_to least MAX_LEN len && nat_le fill MAX_FILL

-- no message
abbrev pub is_bare : ℕ → ℕ → Bool
is_bare len fill = (len == 0) && (fill == 0)

-- the numbers of an act are within their ranges; those that it doesn't use are 0
abbrev pub is_act : End → Act → ℕ → ℕ → ℕ → Bool
is_act at Act.Start channel len fill = is_above channel && is_of at channel && is_bare len fill
is_act at Act.Ask channel len fill = is_above channel && is_message 0 len fill
is_act at Act.Reply channel len fill = is_above channel && is_message 0 len fill
is_act at Act.Refuse channel len fill = is_above channel && is_message 0 len fill
is_act at Act.Answer channel len fill = is_above channel && is_message 1 len fill
is_act at Act.Done channel len fill = is_above channel && is_bare len fill
is_act at Act.Close channel len fill = is_above channel && is_bare len fill
is_act at Act.Release channel len fill = (channel == 0) && is_bare len fill

-- the event is one that a line can say
abbrev pub is_event : PairEvent → Bool
is_event (PairEvent.Do at act channel len fill) = is_act at act channel len fill
is_event (PairEvent.Send at max) = is_from_to 1 MAX_PIECE max
is_event (PairEvent.Get at count) = is_from_to 1 MAX_COUNT count
is_event (PairEvent.Take at channel count) = is_above channel && is_from_to 1 MAX_COUNT count
is_event (PairEvent.Drain max piece) = is_from_to 1 MAX_PIECE max && is_from_to 1 MAX_COUNT piece

-- each event is one that a line can say
abbrev pub AreEvents : List PairEvent → Type 0
AreEvents [] = Unit {0}
AreEvents (event ∷ events) = IsTrue (is_event event) × AreEvents events
