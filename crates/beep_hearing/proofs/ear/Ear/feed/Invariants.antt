use Rattle.std.proofs.Common.{◌-◌, ◌≤◌, List, ℕ, length, take}
use Rattle.beep_standing.specs.beep_history.specs.Journal.{Item}
use Rattle.beep_standing.specs.Standing.{Marks}
use Rattle.beep_hearing.specs.Hears.{IsEar, Goes, KeepsZeroRoom}
use Rattle.beep_hearing.specs.Answers.{IsHeld}
use Rattle.beep_hearing.proofs.ear.Ear.feed.Given as goal

abbrev pub invariant-loop-at : goal.invariant-loop-at
invariant-loop-at l = record {
  within : l.at ≤ length l.bytes;
  room : KeepsZeroRoom l.fn.lives l.lives;
  held : IsHeld l.self l.lives;
  goes : (size : ℕ) (fed rest : List ℕ) (journal : List Item) (given taken : Marks) → IsEar size fed rest journal given taken l.fn.self l.fn.lives
      → Goes size (take l.at l.bytes) fed journal given taken l.self l.lives;
}

abbrev pub decreases-loop-at : goal.decreases-loop-at
decreases-loop-at l = length l.bytes - l.at
