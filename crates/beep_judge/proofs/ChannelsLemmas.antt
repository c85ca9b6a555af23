-- The lives of numbers above 0 lie in the map, that of 0 beside it.
use Rattle.std.proofs.Common.{◌≡◌, ℕ, ◌==◌, Bool, true, false, if◌then◌else◌, Some, refl, ap, arith}
use Rattle.std.proofs.lemmas.Bool.Decides.{nat_tests}
use Rattle.std.specs.Ordering.{nat_cmp}
use Rattle.std.specs.BTreeMap.{get}
use Rattle.beep_judge.specs.declared.life.Life.{Life}
use Rattle.beep_judge.specs.declared.channels.Channels.{Channels}
use Rattle.beep_judge.specs.Kept.{life_at}

-- a number above 0 has what the map has
pub above-one : (channels : Channels) (number : ℕ) (life : Life) → (number == 0) ≡ false → get nat_cmp channels.lives number ≡ Some life
    → life_at number channels ≡ Some life
above-one channels number life above at = rw above at

apart-zero : (c n : ℕ) → (c == 0) ≡ false → (n == 0) ≡ true → (c == n) ≡ false
apart-zero c n e f = grind (arith, nat_tests)

-- where the map changes at a number above 0, the lives change there
pub at-one : (old new : Channels) (number : ℕ) (life : Life) → (number == 0) ≡ false → new.zero ≡ old.zero
    → ((q : ℕ) → get nat_cmp new.lives q ≡ (if number == q then Some life else get nat_cmp old.lives q))
    → (n : ℕ) → life_at n new ≡ (if number == n then Some life else life_at n old)
at-one old new number life above zero at n = of (n == 0) refl
  where
    of : (b : Bool) → (n == 0) ≡ b → (if b then Some new.zero else get nat_cmp new.lives n) ≡ (if number == n then Some life else (if b then Some old.zero else get nat_cmp old.lives n))
    of true e = rw (apart-zero number n above e) (ap (λ (l : Life). Some l) zero)
    of false e = at n

-- a number that isn't 0 tests so
pub not-zero : (n : ℕ) → (n ≡ 0 → ⊥) → (n == 0) ≡ false
not-zero n apart = of (n == 0) refl
  where
    is-zero : (n : ℕ) → (n == 0) ≡ true → n ≡ 0
    is-zero n h = grind (arith, nat_tests)

    of : (b : Bool) → (n == 0) ≡ b → b ≡ false
    of true e = absurd (apart (is-zero n e))
    of false e = refl
