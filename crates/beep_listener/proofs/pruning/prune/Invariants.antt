-- Each answer before the place is over or of a live life.
use Rattle.std.proofs.Common.{◌≡◌, ℕ, length, true}
use Rattle.beep_lines.specs.Bodies.{body_of}
use Rattle.beep_listener.specs.Pruning.{AreOfLives, has_life}
use Rattle.beep_listener.proofs.pruning.prune.Given as goal

abbrev pub invariant-loop-i : goal.invariant-loop-i
invariant-loop-i l = record {
  length_is : length l.bodies ≡ length l.fn.bodies;
  kept : (number ansno : ℕ) → has_life l.session.peer.lives number ≡ true → body_of number ansno l.bodies ≡ body_of number ansno l.fn.bodies;
  before : AreOfLives l.session.peer.lives l.i l.bodies;
}
