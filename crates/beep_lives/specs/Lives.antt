-- Channel zero and the live channels of a session as a list (RFC 3080, section 2.2.1.1).
-- The code keeps beside the list which channels can send and which owe a SEQ.
use Rattle.std.specs.Prelude.{◌≡◌, ℕ, ◌+◌, ◌≤◌, ◌<◌, ◌==◌, Bool, true, false, if◌then◌else◌, List, [], ◌∷◌, map, Option, None, Some, is_some, slice_get}
use Rattle.beep_frame.specs.declared.head.Head.{Head}
use Rattle.beep_frame.specs.declared.rule.Rule.{Rule}
use Rattle.beep_channel.specs.Held.{Live, held_judged, is_held_ready, is_seq_due_of}

-- ---- by number

-- the channel of this number
abbrev pub live_at : ℕ → List Live → Option Live
live_at number [] = None
live_at number (channel ∷ others) =
    if channel.held.number == number then Some channel else live_at number others

-- the numbers, in the order of the list
abbrev pub numbers : List Live → List ℕ
numbers channels = map (λ channel. channel.held.number) channels

-- each number is above those before it
abbrev pub IsAscendingFrom : ℕ → List Live → Type 0
IsAscendingFrom least [] = Unit {0}
IsAscendingFrom least (channel ∷ others) =
    (least ≤ channel.held.number) × IsAscendingFrom (channel.held.number + 1) others

-- ---- what can go out

-- a frame of the channel can go
abbrev pub can_send : Live → Bool
can_send channel = is_held_ready channel.held

-- a SEQ of the channel is due
abbrev pub owes_seq : Live → Bool
owes_seq channel = is_seq_due_of channel.held

-- ---- by place

-- the channel at a place is the first that passes a test
pub record IsFirst (test : Live → Bool) (place : ℕ) (channel : Live) (channels : List Live)
    : Type 0 where
  pub at : slice_get channels place ≡ Some channel
  pub passes : test channel ≡ true
  pub before : (earlier : ℕ) (other : Live) → earlier < place
      → slice_get channels earlier ≡ Some other → test other ≡ false

-- the channel of this number is the first that passes a test
pub record IsFirstOf (test : Live → Bool) (number : ℕ) (channels : List Live) : Type 0 where
  pub place : ℕ
  pub channel : Live
  pub first : IsFirst test place channel channels
  pub named : channel.held.number ≡ number

-- ---- what the code keeps beside the list

-- the numbers, and which of the channels can send and which owe a SEQ; channel zero is there
pub record AreKept (turns : List ℕ) (channels : List Live) (ready due : List Bool) : Type 0 where
  pub turns_are : turns ≡ numbers channels
  pub ready_are : ready ≡ map can_send channels
  pub due_are : due ≡ map owes_seq channels
  pub ascending : IsAscendingFrom 0 channels
  pub zero : is_some (live_at 0 channels) ≡ true

-- ---- room

-- for how many more untaken runs the channel has room
abbrev pub runs_of : Option Live → Option ℕ
runs_of None = None
runs_of (Some channel) = Some channel.runs

-- ---- a received frame

-- the header of the received frame that has begun in the channel and not passed
abbrev pub receiving_of : Option Live → Option Head
receiving_of None = None
receiving_of (Some channel) = channel.held.life.received.under_way

-- a received frame has begun in the channel and not passed
abbrev pub has_begun : Option Live → Bool
has_begun None = false
has_begun (Some channel) = is_some channel.held.life.received.under_way

-- the first rule that a received header breaks in a session: its channel isn't there, or of the
-- channel's life
abbrev pub judged_at : Option Live → Head → Option Rule
judged_at None head = Some Rule.NoSuchChannel
judged_at (Some channel) head = held_judged channel.held head

abbrev pub lives_judged : List Live → Head → Option Rule
lives_judged channels head = judged_at (live_at head.channel channels) head
