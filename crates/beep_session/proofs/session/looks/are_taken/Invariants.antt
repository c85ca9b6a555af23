use Rattle.std.proofs.Common.{◌≡◌, ℕ, ◌<◌, Some}
use Rattle.std.specs.Prelude.{slice_get}
use Rattle.beep_giving.specs.beep_lives.specs.Lives.{numbers}
use Rattle.beep_session.specs.Looks.{IsTakenAt}
use Rattle.beep_session.proofs.session.looks.are_taken.Given as goal

abbrev pub invariant-loop-i : goal.invariant-loop-i
invariant-loop-i l = record {
  taken : (place number : ℕ) → place < l.i → slice_get (numbers l.lives) place ≡ Some number → IsTakenAt number l.lives;
}
