-- What a drain does, and when it ends (docs/FORMATS.md, "Schedules").
-- The code goes round and round; here is what was done in all, and what holds then.
use Rattle.std.specs.Prelude.{◌≡◌, ◌⊎◌, ℕ, ◌+◌, ◌-◌, ◌≤◌, ◌==◌, true, false, Bool, ◌&&◌, List, [], ◌++◌, map, Some}
use Rattle.beep_two_sessions.specs.beep_speaking.specs.declared.emit.Emit.{Emit}
use Rattle.beep_two_sessions.specs.beep_inbox.specs.declared.part.Part.{Part}
use Rattle.beep_two_sessions.specs.beep_octets.specs.Numbers.{numbers_64}
use Rattle.beep_two_sessions.specs.beep_peer.specs.Peering.{is_over}
use Rattle.beep_two_sessions.specs.beep_history.specs.declared.journal.Side.{Side}
use Rattle.beep_two_sessions.specs.beep_history.specs.Marks.{marks, mark_modulo_2_64}
use Rattle.beep_two_sessions.specs.beep_journal.specs.Life.{history, is_there}
use Rattle.beep_two_sessions.specs.End.{End as OneEnd}
use Rattle.beep_schedule.specs.declared.event.End.{End}
use Rattle.beep_schedule.specs.declared.limits.TheConstants.{MAX_COUNT}
use Rattle.beep_pair.specs.Ends.{other_end}
use Rattle.beep_pair.specs.World.{World, end_of, wire_to, session_of}
use Rattle.beep_pair.specs.Steps.{SendsStep, GetsStep, TakesStep}
use Rattle.beep_report.specs.Texts.{drain_line}

-- ---- an end gets its whole wire

-- pieces of so many octets, one after another
pub data Pieces (at : End) (piece : ℕ) (first : World) : World → Type 0 where
  no_piece : Pieces at piece first first
  piece_more : (used : ℕ) (old new : World) → Pieces at piece first old
      → GetsStep at piece used old new → Pieces at piece first new

-- until no octet lies on the wire, or the session is over
pub record GotAll (at : End) (piece : ℕ) (old new : World) : Type 0 where
  pub pieces : Pieces at piece old new
  pub all : (wire_to at new.two ≡ []) ⊎ (is_over (session_of at new).peer ≡ true)

-- ---- an end takes all

-- parts of channels, of none below the one before
pub data Parts (at : End) (first : World) : ℕ → World → Type 0 where
  no_part : Parts at first 0 first
  part_more : (last n : ℕ) (part : Part) (octets : List ℕ) (old new : World)
      → Parts at first last old → last ≤ n → TakesStep at n MAX_COUNT (Some part) octets old new
      → Parts at first n new

-- what was taken of the live life of a number is all that arrived of it
abbrev pub IsAllTaken : OneEnd → ℕ → Type 0
IsAllTaken one n = is_there n one.journal ≡ true
    → one.taken n ≡ map mark_modulo_2_64 (marks Side.Received (history n one.journal))

-- until all that arrived above channel zero is taken, or the session is over
pub record TookAll (at : End) (old new : World) : Type 0 where
  pub last : ℕ
  pub parts : Parts at old last new
  pub all : ((n : ℕ) → (n == 0) ≡ false → IsAllTaken (end_of at new.two) n)
      ⊎ (is_over (session_of at new).peer ≡ true)

-- ---- rounds

-- one end sends; the other gets its whole wire and then takes all
pub record Turn (at : End) (max piece : ℕ) (emit : Emit) (old new : World) : Type 0 where
  pub said : World
  pub sent : SendsStep at max emit old said
  pub heard : World
  pub got : GotAll (other_end at) piece said heard
  pub took : TookAll (other_end at) heard new

-- first A does, and then B
pub record Round (max piece : ℕ) (one other : Emit) (old new : World) : Type 0 where
  pub middle : World
  pub by_a : Turn End.A max piece one old middle
  pub by_b : Turn End.B max piece other middle new

abbrev pub is_nothing : Emit → Bool
is_nothing (Emit.Data head) = false
is_nothing (Emit.Seq seq) = false
is_nothing Emit.Nothing = true

-- so many rounds, in none of which both sends were nothing, with the lines of the sends
pub data Rounds (max piece : ℕ) (first : World) : ℕ → List ℕ → World → Type 0 where
  no_round : Rounds max piece first 0 [] first
  round_more : (count : ℕ) (text : List ℕ) (one other : Emit) (old new : World)
      → Rounds max piece first count text old → Round max piece one other old new
      → (is_nothing one && is_nothing other) ≡ false
      → Rounds max piece first (count + 1)
      (text ++ (drain_line End.A one ++ drain_line End.B other)) new

-- the greatest number of rounds
abbrev pub MOST_ROUNDS : ℕ
MOST_ROUNDS = numbers_64 - 1

-- rounds, the last of them the first in which both sends were nothing; or as many as there may be
pub record Drains (max piece : ℕ) (old : World) (text : List ℕ) (new : World) : Type 0 where
  pub count : ℕ
  pub last : World
  pub rounds : Rounds max piece old count text last
  pub ends : Round max piece Emit.Nothing Emit.Nothing last new
      ⊎ ((count ≡ MOST_ROUNDS) × (new ≡ last))
