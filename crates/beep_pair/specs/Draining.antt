-- What the parts of a drain do, with the lines that they append.
use Rattle.std.specs.Prelude.{◌≡◌, ◌⊎◌, ℕ, ◌≤◌, ◌==◌, true, false, Bool, not, ◌&&◌, List, [], ◌∷◌, ◌++◌, Some}
use Rattle.std.specs.List.{list_any}
use Rattle.beep_two_sessions.specs.beep_journal.specs.Life.{is_there}
use Rattle.beep_two_sessions.specs.beep_speaking.specs.declared.emit.Emit.{Emit}
use Rattle.beep_two_sessions.specs.beep_inbox.specs.declared.part.Part.{Part}
use Rattle.beep_two_sessions.specs.beep_peer.specs.Peering.{is_over}
use Rattle.beep_schedule.specs.declared.event.End.{End}
use Rattle.beep_schedule.specs.declared.limits.TheConstants.{MAX_COUNT}
use Rattle.beep_pair.specs.World.{World, end_of, session_of}
use Rattle.beep_pair.specs.Steps.{TakesStep}
use Rattle.beep_pair.specs.Drains.{Parts, Turn, Round, Drains, IsAllTaken, is_nothing}
use Rattle.beep_report.specs.Texts.{drain_line}

-- parts of one channel, one after another
pub data PartsOf (at : End) (n : ℕ) (first : World) : World → Type 0 where
  begins : PartsOf at n first first
  takes : (part : Part) (octets : List ℕ) (old new : World) → PartsOf at n first old
      → TakesStep at n MAX_COUNT (Some part) octets old new → PartsOf at n first new

-- until none of it is untaken, or the session is over
pub record TookOut (at : End) (n : ℕ) (old new : World) : Type 0 where
  pub parts : PartsOf at n old new
  pub all : ((n == 0) ≡ false → IsAllTaken (end_of at new.two) n)
      ⊎ (is_over (session_of at new).peer ≡ true)

-- ---- channel after channel

-- none of these numbers is below the one before
abbrev pub IsRising : ℕ → List ℕ → Type 0
IsRising low [] = Unit {0}
IsRising low (number ∷ numbers) = (low ≤ number) × IsRising number numbers

abbrev pub is_one_of : ℕ → List ℕ → Bool
is_one_of n numbers = list_any (λ number. number == n) numbers

-- of each of these channels all was taken, or the session is over; those of others, and which lives
-- there are, stay
pub record TookEach (at : End) (numbers : List ℕ) (old new : World) : Type 0 where
  pub parts : (first : World) (low : ℕ) → Parts at first low old → IsRising low numbers
      → (high : ℕ) × Parts at first high new
  pub there : (n : ℕ) → is_there n (end_of at new.two).journal
      ≡ is_there n (end_of at old.two).journal
  pub others : (n : ℕ) → is_one_of n numbers ≡ false → IsAllTaken (end_of at old.two) n
      → IsAllTaken (end_of at new.two) n
  pub all : ((n : ℕ) → (n == 0) ≡ false → is_one_of n numbers ≡ true
      → IsAllTaken (end_of at new.two) n) ⊎ (is_over (session_of at new).peer ≡ true)
  pub over : is_over (session_of at old).peer ≡ true
      → is_over (session_of at new).peer ≡ true

-- ---- turns and rounds

-- one end had its turn, and sent something or nothing
pub record Turned (at : End) (max piece : ℕ) (sent : Bool) (before after : List ℕ)
    (old new : World) : Type 0 where
  pub emit : Emit
  pub turn : Turn at max piece emit old new
  pub sent_is : sent ≡ not (is_nothing emit)
  pub after_is : after ≡ before ++ drain_line at emit

-- both had their turns, and one of them sent something, or none did
pub record Rounded (max piece : ℕ) (sent : Bool) (before after : List ℕ) (old new : World)
    : Type 0 where
  pub one : Emit
  pub other : Emit
  pub round : Round max piece one other old new
  pub sent_is : sent ≡ not (is_nothing one && is_nothing other)
  pub after_is : after ≡ before ++ (drain_line End.A one ++ drain_line End.B other)

-- a whole drain
pub record Drained (max piece : ℕ) (before after : List ℕ) (old new : World) : Type 0 where
  pub text : List ℕ
  pub drains : Drains max piece old text new
  pub after_is : after ≡ before ++ text
