use Rattle.std.proofs.Common.{◌≤◌, List, ℕ, length}
use Rattle.beep_upright.specs.beep_history.specs.Journal.{Item}
use Rattle.beep_upright.specs.beep_standing.specs.Standing.{Marks}
use Rattle.beep_peer.specs.Peering.{Holds}
use Rattle.beep_peer.specs.Calls.{LetsGo}
use Rattle.beep_peer.specs.Left.{left_to_say}
use Rattle.beep_peer.specs.Waiting.{IsDrainedAt, AreLetGo, KeepsAbove}
use Rattle.beep_peer.proofs.letting.let_go.Given as goal

abbrev pub invariant-loop-answer : goal.invariant-loop-answer
invariant-loop-answer l = record {
  goes : (size : ℕ) (journal : List Item) (given taken : Marks) → Holds size journal given taken l.fn.lives l.fn.management
      → LetsGo size journal given taken l.fn.management.answers l.lives l.management;
  lets : AreLetGo l.fn.lives l.fn.management l.management;
  same : (number : ℕ) → IsDrainedAt number l.lives → IsDrainedAt number l.fn.lives;
  kept : KeepsAbove l.fn.lives l.lives;
  falls : left_to_say l.lives l.management ≤ left_to_say l.fn.lives l.fn.management;
}

abbrev pub decreases-loop-answer : goal.decreases-loop-answer
decreases-loop-answer l = length l.management.answers
