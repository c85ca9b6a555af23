-- What each call leaves of the live channels of a session: one channel makes a step, and the others
-- stay; or a life begins or ends (RFC 3080, sections 2.2.1 and 2.3.1; RFC 3081, section 3.1).
-- Each step speaks of every history for which the channel stood: none is kept.
use Rattle.std.specs.Prelude.{◌≡◌, ℕ, ◌==◌, Bool, true, false, if◌then◌else◌, List, [], ◌∷◌, None, Some}
use Rattle.beep_frame.specs.declared.head.Head.{Head}
use Rattle.beep_frame.specs.declared.seq.Seq.{Seq}
use Rattle.beep_history.specs.declared.journal.Side.{Side}
use Rattle.beep_history.specs.Journal.{Item, began, passed, told, opening}
use Rattle.beep_history.specs.Marks.{Mark}
use Rattle.beep_inbox.specs.declared.part.Part.{Part}
use Rattle.beep_channel.specs.Held.{Live, HasRoomOut, is_held_ready, next_head, is_seq_due_of, full_seq_of, told_held}
use Rattle.beep_channel.specs.Stands.{Stands, StandsWith, StandsGiven, SameOut, SameIn, IsNext, IsTold, TakesPart}
use Rattle.beep_lives.specs.Lives.{live_at, numbers, IsAscendingFrom}

-- ---- one channel: no step but a message that is given uses the room that was made for one

-- a received header has begun in it
pub record Begins (head : Head) (old new : Live) : Type 0 where
  pub stands : StandsWith old.held new.held (began Side.Received head)
  pub begun : new.held.life.received.under_way ≡ Some head
  pub same : SameOut old.held new.held
  pub room : new.runs ≡ old.runs
  pub keeps : HasRoomOut old new 0 0

-- a received frame has passed in it
pub record Arrives (head : Head) (payload : List ℕ) (old new : Live) : Type 0 where
  pub begun : old.held.life.received.under_way ≡ Some head
  pub stands : StandsWith old.held new.held (passed Side.Received head payload)
  pub whole : new.held.life.received.under_way ≡ None
  pub same : SameOut old.held new.held
  pub keeps : HasRoomOut old new 0 0

-- it has obeyed a received SEQ
pub record Obeys (seq : Seq) (old new : Live) : Type 0 where
  pub stands : StandsWith old.held new.held (told Side.Received seq)
  pub under : new.held.life.received.under_way ≡ old.held.life.received.under_way
  pub same : SameIn old.held new.held
  pub keeps : HasRoomOut old new 0 0

-- a frame of at most so many octets was cut from it, and has passed
pub record Sends (most : ℕ) (head : Head) (payload : List ℕ) (old new : Live) : Type 0 where
  pub ready : is_held_ready old.held ≡ true
  pub is : head ≡ next_head most old.held
  pub next : (size : ℕ) (past : List Item) (given taken : List Mark)
      → Stands size old.held past given taken
      → IsNext size most old.held new.held past given taken head payload
  pub under : new.held.life.received.under_way ≡ old.held.life.received.under_way
  pub same : SameIn old.held new.held
  pub keeps : HasRoomOut old new 0 0

-- its due SEQ was sent
pub record Tells (seq : Seq) (old new : Live) : Type 0 where
  pub due : is_seq_due_of old.held ≡ true
  pub is : seq ≡ full_seq_of old.held
  pub held : new.held ≡ told_held old.held
  pub told : (size : ℕ) (past : List Item) (given taken : List Mark)
      → Stands size old.held past given taken
      → IsTold size old.held new.held past given taken seq
  pub keeps : HasRoomOut old new 0 0

-- these marks were given in it
pub record Gives (marks : List Mark) (old new : Live) : Type 0 where
  pub stands : StandsGiven old.held new.held marks
  pub under : new.held.life.received.under_way ≡ old.held.life.received.under_way
  pub same : SameIn old.held new.held

-- a part was taken from it
pub record Takes (part : Part) (before after : List ℕ) (old new : Live) : Type 0 where
  pub takes : TakesPart part old.held new.held before after
  pub under : new.held.life.received.under_way ≡ old.held.life.received.under_way
  pub keeps : HasRoomOut old new 0 0

-- what it holds stays: its room alone may change, and none for what is given is used
pub record KeepsHeld (old new : Live) : Type 0 where
  pub held : new.held ≡ old.held
  pub keeps : HasRoomOut old new 0 0

-- a message of so many octets used its room, and no more
pub record UsesRoom (octets : ℕ) (old new : Live) : Type 0 where
  pub used : HasRoomOut old new octets 1

-- ---- all channels

-- channel zero alone, whose implied requests have passed, and whose own window has this size
pub record AreNew (size : ℕ) (channels : List Live) : Type 0 where
  pub zero : Live
  pub alone : channels ≡ zero ∷ []
  pub number : zero.held.number ≡ 0
  pub stands : Stands size zero.held opening [] []

-- one step of the channel of this number, and the others stay, in their order
pub record Edits (number : ℕ) (Step : Live → Live → Type 0) (old new : List Live) : Type 0 where
  pub before : Live
  pub was : live_at number old ≡ Some before
  pub after : Live
  pub step : Step before after
  pub at : (n : ℕ) → live_at n new ≡ (if number == n then Some after else live_at n old)
  pub order : numbers new ≡ numbers old

-- the step where a test holds; else all stay
abbrev pub EditsWhere : Bool → ℕ → (Live → Live → Type 0) → List Live → List Live → Type 0
EditsWhere true number Step old new = Edits number Step old new
EditsWhere false number Step old new = new ≡ old

-- a channel joins, whose number none has
pub record Joins (channel : Live) (old new : List Live) : Type 0 where
  pub at : (n : ℕ) → live_at n new
      ≡ (if channel.held.number == n then Some channel else live_at n old)
  pub ascending : IsAscendingFrom 0 new

-- the channel of this number leaves
pub record Leaves (number : ℕ) (old new : List Live) : Type 0 where
  pub at : (n : ℕ) → live_at n new ≡ (if number == n then None else live_at n old)
  pub ascending : IsAscendingFrom 0 new
