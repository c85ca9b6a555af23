-- Channel zero of a session: what its messages say, and the moments that they make (RFC 3080,
-- section 2.3.1).
-- The code keeps what the waiting requests say, and the octets of the message under way.
use Rattle.std.specs.Prelude.{ℕ, ◌==◌, nat_lt, Bool, true, false, not, ◌&&◌, if◌then◌else◌, List, [], ◌∷◌, ◌++◌, length, Option, None, Some, bytes_eq}
use Rattle.std.specs.List.{list_any}
use Rattle.beep_frame.specs.declared.head.Head.{Head}
use Rattle.beep_frame.specs.declared.kind.Kind.{Kind}
use Rattle.beep_frame.specs.Frame.{is_msg, same_kind}
use Rattle.beep_history.specs.declared.journal.Side.{Side}
use Rattle.beep_history.specs.Journal.{Item, began, passed, told, same_side, other, opening}
use Rattle.beep_history.specs.Marks.{position_of}
use Rattle.beep_mgmt.specs.Form.{Form, greeting, start, chosen, close, okay, fault, PlainProfile}
use Rattle.beep_mgmt.specs.Message.{message_said}
use Rattle.beep_journal.specs.Lives.{Event, close_came, start_granted, close_granted}

-- the channel of an item
abbrev pub channel_of : Item → ℕ
channel_of (began by head) = head.channel
channel_of (passed by head payload) = head.channel
channel_of (told by seq) = seq.channel

-- the history of channel zero: the implied requests, and then the items of its number
abbrev pub zero_history : List Item → List Item
zero_history [] = opening
zero_history (item ∷ journal) =
    if channel_of item == 0 then item ∷ zero_history journal else zero_history journal

-- ---- messages, over the history of channel zero

-- the octets of the message of a side that is under way: of its frames since the last complete one
abbrev pub gathered : Side → List Item → List ℕ
gathered side [] = []
gathered side (began by head ∷ zero) = gathered side zero
gathered side (passed by head payload ∷ zero) =
    if same_side by side then (if head.more then gathered side zero ++ payload else [])
    else gathered side zero
gathered side (told by seq ∷ zero) = gathered side zero

-- what the whole requests of a side say, the latest first; the implied one says nothing, as one
-- that can't be read
abbrev pub asked : Side → List Item → List (Option Form)
asked side [] = []
asked side (began by head ∷ zero) = asked side zero
asked side (passed by head payload ∷ zero) =
    if same_side by side && (is_msg head.kind && not head.more)
    then message_said (gathered side zero ++ payload) ∷ asked side zero
    else asked side zero
asked side (told by seq ∷ zero) = asked side zero

-- what the request at a position says; positions number the list from its end
abbrev pub said_at : ℕ → List (Option Form) → Option Form
said_at position [] = None
said_at position (form ∷ forms) = if length forms == position then form else said_at position forms

-- what the request says that a reply of a side names
abbrev pub said_to : Side → Head → List Item → Option Form
said_to by head zero = said_at (position_of by zero head) (asked (other by) zero)

-- ---- the form of a reply

-- the profile is one of those listed, and its content could be read
abbrev pub is_choice_of : List PlainProfile → PlainProfile → Bool
is_choice_of listed profile =
    list_any (λ candidate. bytes_eq candidate.uri profile.uri) listed && profile.readable

-- a positive reply says this to the request at a position: a greeting to the implied one, the
-- profile chosen to a start, `ok` to a close
abbrev pub is_grant : ℕ → Option Form → Option Form → Bool
is_grant position request None = false
is_grant position (Some (start number server profiles)) (Some (chosen profile)) =
    is_choice_of profiles profile
is_grant position (Some (close number code note)) (Some okay) = true
is_grant position None (Some (greeting features localize profiles)) = position == 0
is_grant position request (Some reply) = false

-- a negative reply says an error
abbrev pub is_refusal : Option Form → Bool
is_refusal (Some (fault code note)) = true
is_refusal (Some (greeting features localize profiles)) = false
is_refusal (Some (start number server profiles)) = false
is_refusal (Some (chosen profile)) = false
is_refusal (Some (close number code note)) = false
is_refusal (Some okay) = false
is_refusal None = false

-- a whole reply of this kind has the form that its request asks for: RPY with what grants it, or
-- ERR with an error
abbrev pub has_form : Kind → ℕ → Option Form → Option Form → Bool
has_form Kind.Rpy position request reply = is_grant position request reply
has_form Kind.Err position request reply = is_refusal reply
has_form Kind.Msg position request reply = false
has_form Kind.Ans position request reply = false
has_form Kind.Nul position request reply = false

-- the reply that a passing frame completes has the form that its request asks for
abbrev pub completes_form : Side → Head → List ℕ → List Item → Bool
completes_form by head payload zero =
    has_form head.kind (position_of by zero head) (said_to by head zero)
    (message_said (gathered by zero ++ payload))

-- ---- moments

-- a whole request of a side, at a position, says this
abbrev pub coming : Side → ℕ → Option Form → List Event
coming by position (Some (close number code note)) = close_came by position number ∷ []
coming by position (Some (greeting features localize profiles)) = []
coming by position (Some (start number server profiles)) = []
coming by position (Some (chosen profile)) = []
coming by position (Some okay) = []
coming by position (Some (fault code note)) = []
coming by position None = []

-- a positive reply came to the request of a side, at a position, that says this
abbrev pub granting : Side → ℕ → Option Form → List Event
granting by position (Some (start number server profiles)) =
    if nat_lt 0 number then start_granted number ∷ [] else []
granting by position (Some (close number code note)) = close_granted by position number ∷ []
granting by position (Some (greeting features localize profiles)) = []
granting by position (Some (chosen profile)) = []
granting by position (Some okay) = []
granting by position (Some (fault code note)) = []
granting by position None = []

-- the moment that a passing frame of channel zero makes: a reply without its form makes none
abbrev pub effect : Side → Head → List ℕ → List Item → List Event
effect by head payload zero =
    if head.more then []
    else if is_msg head.kind
    then coming by (length (asked by zero)) (message_said (gathered by zero ++ payload))
    else if same_kind Kind.Rpy head.kind && completes_form by head payload zero
    then granting (other by) (position_of by zero head) (said_to by head zero)
    else []

-- the moments of channel zero, the latest first
abbrev pub zero_events : List Item → List Event
zero_events [] = []
zero_events (began by head ∷ zero) = zero_events zero
zero_events (passed by head payload ∷ zero) = effect by head payload zero ++ zero_events zero
zero_events (told by seq ∷ zero) = zero_events zero

-- the moments of a journal
abbrev pub events : List Item → List Event
events journal = zero_events (zero_history journal)
