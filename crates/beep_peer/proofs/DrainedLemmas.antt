-- Which channels are drained, and which answers were let go.
use Rattle.std.proofs.Common.{◌≡◌, ℕ, suc, zero, ◌+◌, ◌<◌, ◌≤◌, ◌==◌, Bool, true, false, if◌then◌else◌, List, [], ◌∷◌, ◌++◌, length, None, Some, refl, sym, ap, ◌∙◌, arith, eqb-true, append_assoc}
use Rattle.std.specs.Prelude.{slice_get}
use Rattle.std.proofs.lemmas.Bool.Decides.{nat_tests}
use Rattle.beep_upright.specs.beep_channel.specs.Held.{Live}
use Rattle.beep_upright.specs.beep_lives.specs.Lives.{live_at, numbers}
use Rattle.beep_upright.specs.beep_lives.specs.Edits.{Edits}
use Rattle.beep_upright.specs.beep_asked.specs.Kept.{asks_otherwise}
use Rattle.beep_upright.specs.beep_management.specs.declared.wait.Wait.{Wait}
use Rattle.beep_upright.specs.beep_management.specs.Managed.{Prepared, Managed}
use Rattle.beep_peer.specs.Waiting.{IsDrainedAt, HasCome, AllHaveCome, AreLetGo, KeepsAbove}

-- ---- by place

-- where the channel of a number stands
record IsPlaced (number : ℕ) (channels : List Live) : Type 0 where
  place : ℕ
  within : place < length channels
  at : slice_get (numbers channels) place ≡ Some number

placed : (number : ℕ) (channels : List Live) (channel : Live) → live_at number channels ≡ Some channel → IsPlaced number channels
placed number [] channel at = absurd (let none : None ≡ Some channel = at in cc)
placed number (first ∷ others) channel at = of (first.held.number == number) refl at (placed number others channel)
  where
    of : (b : Bool) → (first.held.number == number) ≡ b → (if b then Some first else live_at number others) ≡ Some channel
        → (live_at number others ≡ Some channel → IsPlaced number others) → IsPlaced number (first ∷ others)
    of true same is rest = record { place = zero; within = omega arith; at = ap (λ (n : ℕ). Some n) (eqb-true first.held.number number same) }
    of false other is rest = let p = rest is in record { place = suc p.place; within = omega (arith, p.within); at = p.at }

pub drained-all : (channels : List Live) (count : ℕ) → length channels ≤ count
    → ((place number : ℕ) → place < count → slice_get (numbers channels) place ≡ Some number → IsDrainedAt number channels)
    → (number : ℕ) → IsDrainedAt number channels
drained-all channels count all each number above channel at =
    let p = placed number channels channel at in each p.place number (omega (arith, all, p.within)) p.at above channel at

pub drained-next : (channels : List Live) (i : ℕ)
    → ((place number : ℕ) → place < i → slice_get (numbers channels) place ≡ Some number → IsDrainedAt number channels)
    → ((number : ℕ) → slice_get (numbers channels) i ≡ Some number → IsDrainedAt number channels)
    → (place number : ℕ) → place < i + 1 → slice_get (numbers channels) place ≡ Some number → IsDrainedAt number channels
drained-next channels i before this place number within at = of (place == i) refl
  where
    of : (b : Bool) → (place == i) ≡ b → IsDrainedAt number channels
    of true same = this number (ap (slice_get (numbers channels)) (sym (eqb-true place i same)) ∙ at)
    of false other = before place number (grind (arith, nat_tests)) at

-- ---- answers

-- a step of channel zero leaves what is drained above it
pub drained-other : (Step : Live → Live → Type 0) (old new : List Live) (number : ℕ) → Edits 0 Step old new → IsDrainedAt number new → IsDrainedAt number old
drained-other Step old new number e drained above channel at =
    drained above channel (e.at number ∙ ap (λ (b : Bool). if b then Some e.after else live_at number old) apart ∙ at)
  where
    apart : (0 == number) ≡ false
    apart = grind (arith, nat_tests)

all-come : (gone : List Prepared) (one : Prepared) (channels : List Live) (m : Managed) → AllHaveCome gone channels m → HasCome one.waits channels m
    → AllHaveCome (gone ++ one ∷ []) channels m
all-come [] one channels m all come = (come, tt)
all-come (other ∷ gone) one channels m all come = (all.0, all-come gone one channels m all.1 come)

module _ (before channels : List Live) (first m : Managed) (same : (number : ℕ) → IsDrainedAt number channels → IsDrainedAt number before) (lets : AreLetGo before first m) where
  -- what has come by now had come before any answer was let go
  come-then : (waits : Wait) → HasCome waits channels m → HasCome waits before first
  come-then Wait.Nothing come = tt
  come-then (Wait.Life number) come = same number come
  come-then Wait.All come = (
    sym (ap (λ (x : Managed). asks_otherwise x.mine.requests) lets.same) ∙ come.0,
    sym (ap (λ (x : Managed). asks_otherwise x.acts.requests) lets.same) ∙ come.1,
    λ number. same number (come.2 number),
  )

  pub lets-one : (one : Prepared) (now : Managed) → HasCome one.waits channels m → m.answers ≡ one ∷ now.answers → now ≡ record m { answers = now.answers } → AreLetGo before first now
  lets-one one now come split stays = record {
    gone = lets.gone ++ one ∷ [];
    split = lets.split ∙ ap (λ (l : List Prepared). lets.gone ++ l) split ∙ sym (append_assoc lets.gone (one ∷ []) now.answers);
    come = all-come lets.gone one before first lets.come (come-then one.waits come);
    same = stays ∙ ap (λ (x : Managed). record x { answers = now.answers }) lets.same;
  }

pub lets-nothing : (channels : List Live) (m : Managed) → AreLetGo channels m m
lets-nothing channels m = record { gone = []; split = refl; come = tt; same = refl }

-- ---- the other channels

pub keeps-all : (channels : List Live) → KeepsAbove channels channels
keeps-all channels = record { order = refl; others = λ n above. refl }

-- one step more of channel zero leaves them
pub keeps-more : (Step : Live → Live → Type 0) (first old new : List Live) → KeepsAbove first old → Edits 0 Step old new → KeepsAbove first new
keeps-more Step first old new kept e = record {
  order = e.order ∙ kept.order;
  others = λ n above. e.at n ∙ ap (λ (b : Bool). if b then Some e.after else live_at n old) above ∙ kept.others n above;
}
