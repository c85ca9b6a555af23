-- When the live channels of a session stand for its journal, and for what was given and taken in
-- each live life (RFC 3080, section 2.3.1).
-- The code keeps no journal: each channel stands for the history of the life of its number.
use Rattle.std.specs.Prelude.{◌≡◌, ℕ, ◌==◌, Bool, true, false, ◌&&◌, if◌then◌else◌, List, [], Option, None, Some, is_some}
use Rattle.beep_frame.specs.declared.head.Head.{Head}
use Rattle.beep_history.specs.declared.journal.Side.{Side}
use Rattle.beep_history.specs.Journal.{Item}
use Rattle.beep_history.specs.Marks.{Mark}
use Rattle.beep_history.specs.Broken.{under_way}
use Rattle.beep_journal.specs.Zero.{zero_history}
use Rattle.beep_journal.specs.Life.{life_now, life_under_way, is_there, history}
use Rattle.beep_channel.specs.Held.{Live}
use Rattle.beep_channel.specs.Stands.{Stands}
use Rattle.beep_lives.specs.Lives.{live_at, IsAscendingFrom}

-- the marks that were given or taken in the live life of each number
abbrev pub Marks : Type 0
Marks = ℕ → List Mark

-- nothing was
abbrev pub no_marks : Marks
no_marks number = []

-- the marks of one number are these
abbrev pub with_marks : ℕ → List Mark → Marks → Marks
with_marks number ones marks n = if number == n then ones else marks n

-- the header of the received frame that is under way, where it is of this number and came in its
-- life of this count
abbrev pub under_if : Bool → Option Head → Option Head
under_if true under = under
under_if false under = None

abbrev pub is_under : ℕ → ℕ → List Item → Option Head → Bool
is_under number count journal None = false
is_under number count journal (Some head) =
    head.channel == number && life_under_way number Side.Received journal == count

abbrev pub under_in : ℕ → ℕ → List Item → Option Head
under_in number count journal =
    under_if (is_under number count journal (under_way Side.Received journal))
    (under_way Side.Received journal)

-- the channels of a session whose own windows have this size stand for a journal: channel zero for
-- its own history, and each number above 0 for that of its live life, by the lives of an earlier
-- part of the journal. That part is the whole, but after the last frame of a message of channel
-- zero, until what it says is done.
pub record AreLive (size : ℕ) (lives journal : List Item) (given taken : Marks)
    (channels : List Live) : Type 0 where
  pub there : (n : ℕ) → is_there n lives ≡ is_some (live_at n channels)
  pub zero : (c : Live) → live_at 0 channels ≡ Some c
      → Stands size c.held (zero_history journal) (given 0) (taken 0)
  pub above : (n : ℕ) (c : Live) → (n == 0) ≡ false → live_at n channels ≡ Some c
      → Stands size c.held (history n lives) (given n) (taken n)
  pub under : (n : ℕ) (c : Live) → live_at n channels ≡ Some c
      → c.held.life.received.under_way ≡ under_in n (life_now n lives) journal
  pub ascending : IsAscendingFrom 0 channels

-- the channels of a session between two messages of channel zero
abbrev pub AreLiveBy : ℕ → List Item → Marks → Marks → List Live → Type 0
AreLiveBy size journal given taken channels = AreLive size journal journal given taken channels
