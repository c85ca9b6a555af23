-- The report of a schedule: which steps were made, and what is written of them (docs/FORMATS.md,
-- "Reports of schedules").
use Rattle.std.specs.Prelude.{◌≡◌, ◌↔◌, ◌⊎◌, ℕ, ◌<◌, Bool, true, false, not, ◌&&◌, ◌||◌, List, [], ◌∷◌, ◌++◌, Option}
use Rattle.std.specs.List.{list_any}
use Rattle.beep_two_sessions.specs.beep_frame.specs.Frame.{is_msg}
use Rattle.beep_two_sessions.specs.beep_journal.specs.Life.{is_released}
use Rattle.beep_two_sessions.specs.beep_journal.specs.Lives.{has_ended}
use Rattle.beep_two_sessions.specs.beep_journal.specs.Zero.{events}
use Rattle.beep_two_sessions.specs.beep_channel.specs.Stands.{ends_of}
use Rattle.beep_two_sessions.specs.beep_lives.specs.Lives.{can_send, owes_seq}
use Rattle.beep_two_sessions.specs.beep_speaking.specs.declared.emit.Emit.{Emit}
use Rattle.beep_two_sessions.specs.beep_inbox.specs.declared.part.Part.{Part}
use Rattle.beep_two_sessions.specs.beep_peer.specs.Peering.{is_over, is_greeted}
use Rattle.beep_two_sessions.specs.beep_session.specs.Session.{Held}
use Rattle.beep_two_sessions.specs.beep_session.specs.Looks.{IsTakenAt}
use Rattle.beep_schedule.specs.declared.event.PairEvent.{PairEvent}
use Rattle.beep_two_sessions.specs.End.{StandsUnbroken}
use Rattle.beep_two_sessions.specs.Kept.{IsPrefix, IsTakenInOrder, AreReplies}
use Rattle.beep_two_sessions.specs.World.{World as Two}
use Rattle.beep_report.specs.declared.answer.Answer.{Answer}
use Rattle.beep_pair.specs.Sessions.{Sessions}
use Rattle.beep_pair.specs.Totals.{AreTotals}
use Rattle.beep_pair.specs.World.{World, kept_of}
use Rattle.beep_pair.specs.Steps.{DoesStep, SendsStep, GetsStep, TakesStep}
use Rattle.beep_pair.specs.Drains.{Drains}
use Rattle.beep_report.specs.Texts.{act_line, send_line, get_line, take_line, ending_text}

-- what an event does, and what is written of it
abbrev pub Steps : PairEvent → World → List ℕ → World → Type 0
Steps (PairEvent.Do at act n len fill) old text new =
    (answer : Answer) × DoesStep at act n len fill answer old new
    × (text ≡ act_line at act n answer)
Steps (PairEvent.Send at max) old text new =
    (emit : Emit) × SendsStep at max emit old new × (text ≡ send_line at emit)
Steps (PairEvent.Get at count) old text new =
    (used : ℕ) × GetsStep at count used old new × (text ≡ get_line at used)
Steps (PairEvent.Take at n count) old text new =
    (part : Option Part) × (octets : List ℕ) × TakesStep at n count part octets old new
    × (text ≡ take_line at n part octets)
Steps (PairEvent.Drain max piece) old text new = Drains max piece old text new

-- the events, one after another
pub data Runs (first : World) : List PairEvent → List ℕ → World → Type 0 where
  begins : Runs first [] [] first
  goes : (events : List PairEvent) (text line : List ℕ) (event : PairEvent) (old new : World)
      → Runs first events text old → Steps event old line new
      → Runs first (events ++ event ∷ []) (text ++ line) new

-- ---- whether nothing can move

-- a session would send something
abbrev pub may_send : Held → Bool
may_send session = not (is_over session.peer)
    && ((is_greeted session.peer.management && list_any owes_seq session.peer.lives)
    || list_any can_send session.peer.lives)

-- neither end may send, both wires are empty, and all that arrived is taken
pub record IsStill (both : Sessions) : Type 0 where
  pub silent_a : may_send both.a ≡ false
  pub silent_b : may_send both.b ≡ false
  pub empty_a : both.to_a ≡ []
  pub empty_b : both.to_b ≡ []
  pub taken_a : (number : ℕ) → IsTakenAt number both.a.peer.lives
  pub taken_b : (number : ℕ) → IsTakenAt number both.b.peer.lives

-- ---- what is appended

-- the line of a step, or the lines of a drain
pub record ReportsEvent (event : PairEvent) (before after : List ℕ) (old new : World) : Type 0 where
  pub line : List ℕ
  pub steps : Steps event old line new
  pub after_is : after ≡ before ++ line

-- the report of a whole schedule: its lines, the totals of all lives, and whether nothing can move
pub record Adds (events : List PairEvent) (before after : List ℕ) (old new : World) : Type 0 where
  pub text : List ℕ
  pub runs : Runs old events text new
  pub still : Bool
  pub is_still : (still ≡ true) ↔ IsStill (kept_of new)
  pub after_is : after ≡ before ++ (text ++ ending_text new.accounts still)

-- ---- what holds then

-- of a life all that was given at either end was taken at the other
abbrev pub IsTakenWhole : Two → ℕ → ℕ → Type 0
IsTakenWhole two number count =
    (two.b.took number count ≡ two.a.gave number count)
    × (two.a.took number count ≡ two.b.gave number count)

-- each session stands lawfully for its journal and found no broken rule; of each life and giver
-- what was taken is the first part of what was given, in order, and each request has one reply, of
-- those that its giver had wholly taken; all of it was taken where nothing can move, in a life that
-- has ended at an end, or where an end is released; and the accounts count it
pub record IsKept (two : Two) (still : Bool) (both : Sessions) : Type 0 where
  pub unbroken_a : StandsUnbroken two.a
  pub unbroken_b : StandsUnbroken two.b
  pub prefix_by_b : (number count : ℕ) → 0 < number → 0 < count
      → IsPrefix (two.b.took number count) (two.a.gave number count)
  pub prefix_by_a : (number count : ℕ) → 0 < number → 0 < count
      → IsPrefix (two.a.took number count) (two.b.gave number count)
  pub order_at_a : (number count : ℕ) → 0 < number → 0 < count
      → IsTakenInOrder two.a number count
  pub order_at_b : (number count : ℕ) → 0 < number → 0 < count
      → IsTakenInOrder two.b number count
  pub replies_at_a : (number count : ℕ) → 0 < number → 0 < count
      → AreReplies (ends_of is_msg (two.b.took number count)) 0 (two.a.took number count)
  pub replies_at_b : (number count : ℕ) → 0 < number → 0 < count
      → AreReplies (ends_of is_msg (two.a.took number count)) 0 (two.b.took number count)
  pub if_still : still ≡ true → (number count : ℕ) → 0 < number → 0 < count
      → IsTakenWhole two number count
  pub if_ended : (number count : ℕ) → 0 < number → 0 < count
      → (has_ended number count (events two.a.journal) ≡ true)
      ⊎ (has_ended number count (events two.b.journal) ≡ true) → IsTakenWhole two number count
  pub if_released : (is_released two.a.journal ≡ true) ⊎ (is_released two.b.journal ≡ true)
      → (number count : ℕ) → 0 < number → 0 < count → IsTakenWhole two number count
  pub totals : AreTotals two both.accounts

-- the report, and what holds of the world that its steps lead to
pub record Reported (events : List PairEvent) (before after : List ℕ) (old new : World)
    : Type 0 where
  pub adds : Adds events before after old new
  pub kept : IsKept new.two adds.still (kept_of new)
