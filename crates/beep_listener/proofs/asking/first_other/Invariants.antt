-- The numbers so far are among the others.
use Rattle.std.proofs.Common.{◌≡◌, ℕ, take, true}
use Rattle.beep_steps.specs.beep_decide.specs.Decide.{is_among}
use Rattle.beep_listener.proofs.asking.first_other.Given as goal

abbrev pub invariant-loop-i : goal.invariant-loop-i
invariant-loop-i l = (n : ℕ) → is_among n (take l.i l.numbers) ≡ true → is_among n l.others ≡ true
