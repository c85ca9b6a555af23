use Rattle.std.proofs.Common.{◌≡◌, ℕ, ◌<◌, Some}
use Rattle.std.specs.Prelude.{slice_get}
use Rattle.beep_upright.specs.beep_lives.specs.Lives.{numbers}
use Rattle.beep_peer.specs.Waiting.{IsDrainedAt}
use Rattle.beep_peer.proofs.letting.are_drained.Given as goal

abbrev pub invariant-loop-i : goal.invariant-loop-i
invariant-loop-i l = record {
  drained : (place number : ℕ) → place < l.i → slice_get (numbers l.lives) place ≡ Some number → IsDrainedAt number l.lives;
}
