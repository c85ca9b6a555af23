-- Which channels a call leaves, and that one of each number is there as before.
use Rattle.std.proofs.Common.{◌≡◌, ℕ, ◌==◌, Bool, true, false, ◌||◌, if◌then◌else◌, List, [], ◌∷◌, Some, is_some, refl, sym, ap, ◌∙◌}
use Rattle.std.specs.List.{list_any}
use Rattle.beep_peer.specs.beep_journal.proofs.MomentLemmas.{same-number}
use Rattle.beep_peer.specs.beep_channel.specs.Held.{Live}
use Rattle.beep_peer.specs.beep_lives.specs.Lives.{live_at, numbers}
use Rattle.beep_peer.specs.beep_lives.specs.Edits.{Edits}
use Rattle.beep_peer.specs.Waiting.{KeepsAbove}
use Rattle.beep_giving.specs.Giving.{ChangesOnly}

-- ---- that there is one

live-any : (n : ℕ) (channels : List Live) → is_some (live_at n channels) ≡ list_any (λ k. k == n) (numbers channels)
live-any n [] = refl
live-any n (channel ∷ channels) = of (channel.held.number == n) (live-any n channels)
  where
    of : (b : Bool) → is_some (live_at n channels) ≡ list_any (λ k. k == n) (numbers channels)
        → is_some (if b then Some channel else live_at n channels) ≡ (b || list_any (λ k. k == n) (numbers channels))
    of true rest = refl
    of false rest = rest

-- where the numbers stay, one is there as before
pub there-by : (old new : List Live) → numbers new ≡ numbers old → (n : ℕ) → is_some (live_at n new) ≡ is_some (live_at n old)
there-by old new order n = live-any n new ∙ ap (λ (ns : List ℕ). list_any (λ k. k == n) ns) order ∙ sym (live-any n old)

-- ---- one step

module _ (number : ℕ) (Step : Live → Live → Type 0) (old new : List Live) (e : Edits number Step old new) where
  pub at-number : live_at number new ≡ Some e.after
  at-number = e.at number ∙ ap (λ (b : Bool). if b then Some e.after else live_at number old) (same-number number)

  at-others : (n : ℕ) → (number == n) ≡ false → live_at n new ≡ live_at n old
  at-others n apart = e.at n ∙ ap (λ (b : Bool). if b then Some e.after else live_at n old) apart

  -- a step, and then one of channel zero
  pub edits-both : (last : List Live) → KeepsAbove new last → ChangesOnly (λ n. 0 == n || number == n) old last
  edits-both last kept = record {
    order = kept.order ∙ e.order;
    there = there-by old last (kept.order ∙ e.order);
    others = λ n apart. kept.others n (first (0 == n) (number == n) apart) ∙ at-others n (second (0 == n) (number == n) apart);
  }
    where
      first : (a b : Bool) → (a || b) ≡ false → a ≡ false
      first true b none = cc
      first false b none = refl

      second : (a b : Bool) → (a || b) ≡ false → b ≡ false
      second true b none = cc
      second false b none = none
