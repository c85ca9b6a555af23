-- What is taken, by place.
use Rattle.std.proofs.Common.{◌≡◌, ℕ, suc, zero, ◌<◌, ◌≤◌, ◌==◌, Bool, true, false, if◌then◌else◌, List, [], ◌∷◌, length, None, Some, refl, ap, arith, eqb-true}
use Rattle.std.specs.Prelude.{slice_get}
use Rattle.beep_giving.specs.beep_channel.specs.Held.{Live}
use Rattle.beep_giving.specs.beep_lives.specs.Lives.{live_at, numbers}
use Rattle.beep_session.specs.Looks.{IsTakenAt}

-- where the channel of a number stands
record IsPlaced (number : ℕ) (channels : List Live) : Type 0 where
  place : ℕ
  within : place < length channels
  at : slice_get (numbers channels) place ≡ Some number

placed : (number : ℕ) (channels : List Live) (channel : Live) → live_at number channels ≡ Some channel → IsPlaced number channels
placed number [] channel at = absurd (let none : None ≡ Some channel = at in cc)
placed number (first ∷ others) channel at = of (first.held.number == number) refl at (placed number others channel)
  where
    of : (b : Bool) → (first.held.number == number) ≡ b → (if b then Some first else live_at number others) ≡ Some channel
        → (live_at number others ≡ Some channel → IsPlaced number others) → IsPlaced number (first ∷ others)
    of true same is rest = record { place = zero; within = omega arith; at = ap (λ (n : ℕ). Some n) (eqb-true first.held.number number same) }
    of false other is rest = let p = rest is in record { place = suc p.place; within = omega (arith, p.within); at = p.at }

pub taken-all : (channels : List Live) (count : ℕ) → length channels ≤ count
    → ((place number : ℕ) → place < count → slice_get (numbers channels) place ≡ Some number → IsTakenAt number channels)
    → (number : ℕ) → IsTakenAt number channels
taken-all channels count all each number above channel at =
    let p = placed number channels channel at in each p.place number (omega (arith, all, p.within)) p.at above channel at
