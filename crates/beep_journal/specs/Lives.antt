-- The lives of channels, by the moments of channel zero that begin and end them, the latest first
-- (RFC 3080, sections 2.3.1.2 and 2.3.1.3).
-- The code keeps the numbers that are live, and of each close that waits whether it names the live
-- life.
use Rattle.std.specs.Prelude.{ℕ, ◌+◌, ◌==◌, nat_lt, Bool, false, not, ◌&&◌, ◌||◌, if◌then◌else◌, List, [], ◌∷◌}
use Rattle.beep_history.specs.declared.journal.Side.{Side}
use Rattle.beep_history.specs.Journal.{same_side}

-- a whole close came, of a side, at a position, of a number; a start of a number was granted; the
-- close of a side, at a position, of a number was granted
pub data Event : Type 0 where
  close_came : Side → ℕ → ℕ → Event
  start_granted : ℕ → Event
  close_granted : Side → ℕ → ℕ → Event

abbrev mutual
  -- how many lives of a number have begun: a start of a number that is live begins none
  pub lives : ℕ → List Event → ℕ
  lives number [] = 0
  lives number (close_came side position of ∷ events) = lives number events
  lives number (start_granted of ∷ events) =
      if of == number && not (nat_lt 0 (lives number events)
      && not (has_ended number (lives number events) events))
      then lives number events + 1
      else lives number events
  lives number (close_granted side position of ∷ events) = lives number events

  -- the life of this count, from 1, has ended: a close that names it was granted
  pub has_ended : ℕ → ℕ → List Event → Bool
  has_ended number count [] = false
  has_ended number count (close_came side position of ∷ events) = has_ended number count events
  has_ended number count (start_granted of ∷ events) = has_ended number count events
  has_ended number count (close_granted side position of ∷ events) =
      (of == number && life_named number side position events == count)
      || has_ended number count events

  -- the life that the close of a side at a position names: the one of its number that had begun
  -- last as it came
  pub life_named : ℕ → Side → ℕ → List Event → ℕ
  life_named number side position [] = 0
  life_named number side position (close_came by at of ∷ events) =
      if same_side by side && at == position then lives number events
      else life_named number side position events
  life_named number side position (start_granted of ∷ events) =
      life_named number side position events
  life_named number side position (close_granted by at of ∷ events) =
      life_named number side position events

-- the number has a life that has begun and not ended
abbrev pub is_live : ℕ → List Event → Bool
is_live number events =
    nat_lt 0 (lives number events) && not (has_ended number (lives number events) events)

-- the count of the life of a number that is live, 0 where none is
abbrev pub live_life : ℕ → List Event → ℕ
live_life number events = if is_live number events then lives number events else 0

-- a close of 0 was granted: the session is released
abbrev pub has_release : List Event → Bool
has_release [] = false
has_release (close_came side position of ∷ events) = has_release events
has_release (start_granted of ∷ events) = has_release events
has_release (close_granted side position of ∷ events) = of == 0 || has_release events
