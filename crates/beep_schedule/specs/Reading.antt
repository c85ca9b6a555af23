-- How a line of a schedule is read, from its beginning, for the proofs alone: the name of its event
-- and then its numbers.
use Rattle.std.specs.Prelude.{ℕ, suc, ◌==◌, Bool, true, false, ◌&&◌, nat_lt, nat_le, eqb, List, [], ◌∷◌, take, drop, length, Option, None, Some, codes, bytes_eq, if◌then◌else◌}
use Rattle.std.specs.List.{starts_with, position}
use Rattle.std.specs.Fmt.{decimal}
use Rattle.std.specs.Str.Parse.{digits_value}
use Rattle.beep_octets.specs.Numbers.{numbers_32}
use Rattle.beep_schedule.specs.declared.event.End.{End}
use Rattle.beep_schedule.specs.declared.event.Act.{Act}
use Rattle.beep_schedule.specs.declared.event.PairEvent.{PairEvent}
use Rattle.beep_schedule.specs.declared.field.Field.{Field}
use Rattle.beep_schedule.specs.declared.field.Numbers.{Numbers}
use Rattle.beep_schedule.specs.declared.line.Verb.{Verb}
use Rattle.beep_schedule.specs.declared.limits.TheConstants.{MAX_FILL}
use Rattle.beep_schedule.specs.Events.{is_event}

-- ---- numbers

-- the number whose decimal text this is
abbrev pub number_in : List ℕ → Option ℕ
number_in word = if bytes_eq word (decimal (digits_value 10 word))
    && nat_lt (digits_value 10 word) numbers_32 then Some (digits_value 10 word) else None

-- the place of the first such octet
abbrev pub place_of : ℕ → List ℕ → Option ℕ
place_of octet text = position (λ other. other == octet) text

abbrev pub place_or : ℕ → Option ℕ → ℕ
place_or other None = other
place_or other (Some place) = place

-- how many octets stand before the first space
abbrev pub word_length : List ℕ → ℕ
word_length text = place_or (length text) (place_of 32 text)

abbrev pub sized : ℕ → Option ℕ → Option Field
sized len None = None
sized len (Some n) = Some (record { value = n; len = suc len })

-- a space and a number
abbrev pub field_of : List ℕ → Option Field
field_of [] = None
field_of (octet ∷ text) =
    if octet == 32 then sized (word_length text) (number_in (take (word_length text) text))
    else None

abbrev pub is_nil : List ℕ → Bool
is_nil [] = true
is_nil (octet ∷ text) = false

abbrev pub third : ℕ → ℕ → List ℕ → Option Field → Option Numbers
third one two text None = None
third one two text (Some field) = if is_nil (drop field.len text)
    then Some (Numbers.Three one two field.value) else None

abbrev pub second : ℕ → List ℕ → Option Field → Option Numbers
second one text None = None
second one text (Some field) = if is_nil (drop field.len text)
    then Some (Numbers.Two one field.value)
    else third one field.value (drop field.len text) (field_of (drop field.len text))

abbrev pub first : List ℕ → Option Field → Option Numbers
first text None = None
first text (Some field) = if is_nil (drop field.len text)
    then Some (Numbers.One field.value)
    else second field.value (drop field.len text) (field_of (drop field.len text))

-- at most three numbers, a space before each
abbrev pub numbers_of : List ℕ → Option Numbers
numbers_of text = if is_nil text then Some Numbers.Zero else first text (field_of text)

-- ---- events

abbrev pub verb_text : Verb → List ℕ
verb_text Verb.Start = codes " start"
verb_text Verb.Ask = codes " ask"
verb_text Verb.Reply = codes " reply"
verb_text Verb.Refuse = codes " refuse"
verb_text Verb.Answer = codes " answer"
verb_text Verb.Done = codes " done"
verb_text Verb.Close = codes " close"
verb_text Verb.Release = codes " release"
verb_text Verb.Send = codes " send"
verb_text Verb.Get = codes " get"
verb_text Verb.Take = codes " take"

-- the verb with which the text begins
abbrev pub verb_in : List Verb → List ℕ → Option Verb
verb_in [] text = None
verb_in (verb ∷ verbs) text =
    if starts_with eqb text (verb_text verb) then Some verb else verb_in verbs text

abbrev pub all_verbs : List Verb
all_verbs = Verb.Start ∷ Verb.Ask ∷ Verb.Reply ∷ Verb.Refuse ∷ Verb.Answer ∷ Verb.Done
    ∷ Verb.Close ∷ Verb.Release ∷ Verb.Send ∷ Verb.Get ∷ Verb.Take ∷ []

-- a message's act, where its fill is an octet
abbrev pub message_act : End → Act → ℕ → ℕ → ℕ → Option PairEvent
message_act at act channel len fill =
    if nat_le fill MAX_FILL then Some (PairEvent.Do at act channel len fill) else None

abbrev pub bare_act : End → Act → ℕ → Option PairEvent
bare_act at act channel = Some (PairEvent.Do at act channel 0 0)

-- the event of a verb with no number, with one, two or three
abbrev pub with_none : End → Verb → Option PairEvent
with_none at Verb.Release = bare_act at Act.Release 0
with_none at verb = None

abbrev pub with_one : End → Verb → ℕ → Option PairEvent
with_one at Verb.Start n = bare_act at Act.Start n
with_one at Verb.Done n = bare_act at Act.Done n
with_one at Verb.Close n = bare_act at Act.Close n
with_one at Verb.Send n = Some (PairEvent.Send at n)
with_one at Verb.Get n = Some (PairEvent.Get at n)
with_one at verb n = None

abbrev pub with_two : End → Verb → ℕ → ℕ → Option PairEvent
with_two at Verb.Take n m = Some (PairEvent.Take at n m)
with_two at verb n m = None

abbrev pub with_three : End → Verb → ℕ → ℕ → ℕ → Option PairEvent
with_three at Verb.Ask n len fill = message_act at Act.Ask n len fill
with_three at Verb.Reply n len fill = message_act at Act.Reply n len fill
with_three at Verb.Refuse n len fill = message_act at Act.Refuse n len fill
with_three at Verb.Answer n len fill = message_act at Act.Answer n len fill
with_three at verb n len fill = None

abbrev pub event_with : End → Verb → Numbers → Option PairEvent
event_with at verb Numbers.Zero = with_none at verb
event_with at verb (Numbers.One n) = with_one at verb n
event_with at verb (Numbers.Two n m) = with_two at verb n m
event_with at verb (Numbers.Three n m k) = with_three at verb n m k

-- the event, where its numbers are within their ranges
abbrev pub valid : Option PairEvent → Option PairEvent
valid None = None
valid (Some event) = if is_event event then Some event else None

abbrev pub counted : End → Verb → Option Numbers → Option PairEvent
counted at verb None = None
counted at verb (Some numbers) = event_with at verb numbers

abbrev pub said : End → List ℕ → Option Verb → Option PairEvent
said at text None = None
said at text (Some verb) = counted at verb (numbers_of (drop (length (verb_text verb)) text))

abbrev pub drained : Option Numbers → Option PairEvent
drained (Some (Numbers.Two max piece)) = Some (PairEvent.Drain max piece)
drained numbers = None

abbrev pub drain_in : List ℕ → Option PairEvent
drain_in text = if starts_with eqb text (codes "drain") then drained (numbers_of (drop 5 text))
    else None

-- the event that a line says, without its LF
abbrev pub event_in : List ℕ → Option PairEvent
event_in [] = None
event_in (octet ∷ text) = valid (if octet == 65 then said End.A text (verb_in all_verbs text)
    else if octet == 66 then said End.B text (verb_in all_verbs text)
    else drain_in (octet ∷ text))
