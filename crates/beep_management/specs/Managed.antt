-- What an end keeps of channel zero beside the channel itself, by value: the requests of both sides
-- that wait, the own requests that aren't sent, the answers that aren't given, and the channels
-- that are starting (RFC 3080, section 2.3.1).
-- The code keeps the same in queues, with room for what comes.
use Rattle.std.specs.List.{list_any}
use Rattle.std.specs.Option.{option_map_or}
use Rattle.std.specs.Prelude.{ℕ, ◌+◌, ◌==◌, min, Bool, not, if◌then◌else◌, List, [], ◌∷◌, ◌++◌, length, map, filter, flat_map, Option, None, Some}
use Rattle.beep_asked.specs.beep_frame.specs.declared.kind.Kind.{Kind}
use Rattle.beep_asked.specs.beep_frame.specs.Frame.{is_msg, same_kind}
use Rattle.beep_asked.specs.beep_mgmt.specs.Form.{Form, greeting, start, chosen, close, okay, fault}
use Rattle.beep_asked.specs.Kept.{Kept, Queue}
use Rattle.beep_asked.specs.beep_channel.specs.Held.{Live}
use Rattle.beep_spoken.specs.Spoken.{Spoken}
use Rattle.beep_management.specs.declared.wait.Wait.{Wait}

-- an answer that isn't given yet: its kind, its message, and what it waits for
pub record Prepared : Type 0 where
  pub kind : Kind
  pub octets : List ℕ
  pub waits : Wait

-- answers, the oldest first, and for how many more there is room
pub record PreparedQueue : Type 0 where
  pub list : List Prepared
  pub room : ℕ

-- channels, the oldest first, and for how many more there is room
pub record ChannelQueue : Type 0 where
  pub list : List Live
  pub room : ℕ

-- the first answer
abbrev pub first_of : List Prepared → Option Prepared
first_of [] = None
first_of (answer ∷ answers) = Some answer

-- the octets of these answers together
abbrev pub octets_prepared : List Prepared → ℕ
octets_prepared [] = 0
octets_prepared (answer ∷ answers) = length answer.octets + octets_prepared answers

-- the life of this number has ended: what waits for it waits for nothing
abbrev pub wait_without : ℕ → Wait → Wait
wait_without number Wait.Nothing = Wait.Nothing
wait_without number (Wait.Life of) = if of == number then Wait.Nothing else Wait.Life of
wait_without number Wait.All = Wait.All

abbrev pub one_without : ℕ → Prepared → Prepared
one_without number answer = record answer { waits = wait_without number answer.waits }

abbrev pub without : ℕ → List Prepared → List Prepared
without number answers = map (one_without number) answers

-- the own requests that have passed and wait, and those that were given and have not wholly passed;
-- the peer's that wait, the latest of each first; the answers that aren't given; the channels of
-- own starts, and of the peer's that are to be granted, the oldest of each first
pub record Managed : Type 0 where
  pub mine : Queue
  pub acts : Queue
  pub theirs : Queue
  pub answers : List Prepared
  pub starting : List Live
  pub granted : List Live

-- ---- starts

-- the number of the start that a request says
abbrev pub number_started : Option Form → List ℕ
number_started None = []
number_started (Some (start number server profiles)) = number ∷ []
number_started (Some (greeting features localize profiles)) = []
number_started (Some (chosen profile)) = []
number_started (Some (close number code note)) = []
number_started (Some okay) = []
number_started (Some (fault code note)) = []

-- the numbers of the starts among requests, in their order
abbrev pub numbers_started : List Kept → List ℕ
numbers_started requests = flat_map (λ kept. number_started kept.said) requests

-- the numbers of the starts among requests that these replies grant, one each
abbrev pub numbers_granted : List Spoken → List Kept → List ℕ
numbers_granted [] requests = []
numbers_granted (reply ∷ replies) [] = []
numbers_granted (reply ∷ replies) (kept ∷ requests) =
    if same_kind Kind.Rpy reply.kind
    then number_started kept.said ++ numbers_granted replies requests
    else numbers_granted replies requests

-- one of these channels has this number
abbrev pub has_number : ℕ → List Live → Bool
has_number number channels = list_any (λ channel. channel.held.number == number) channels

-- the numbers of these channels
abbrev pub numbers_of : List Live → List ℕ
numbers_of channels = map (λ channel. channel.held.number) channels

-- the lowest of these numbers
abbrev pub lowest : List ℕ → Option ℕ
lowest [] = None
lowest (number ∷ others) = Some (option_map_or (λ other. min number other) (lowest others) number)

-- ---- messages

-- the requests among messages
abbrev pub requests_among : List Spoken → List Spoken
requests_among messages = filter (λ one. is_msg one.kind) messages

-- the replies among messages
abbrev pub replies_among : List Spoken → List Spoken
replies_among messages = filter (λ one. not (is_msg one.kind)) messages
