-- A search of a list, place by place.
use Rattle.std.proofs.Common.{◌≡◌, ℕ, zero, suc, ◌+◌, ◌<◌, Bool, ◌||◌, List, [], ◌∷◌, length, map, drop, Some, refl, ap, ◌∙◌, arith}
use Rattle.std.specs.List.{list_any, slice_get}

any-at : {X Y : Type 0} (f : Y → Bool) (v : X → Y) (xs : List X) (i : ℕ) (b : Bool) → i < length xs
    → ((x : X) → slice_get xs i ≡ Some x → b ≡ f (v x)) → list_any f (map v (drop i xs)) ≡ (b || list_any f (map v (drop (suc i) xs)))
any-at f v [] i b within at = absurd (omega (arith, within))
any-at f v (x ∷ xs) zero b within at = rw (at x refl) refl
any-at f v (x ∷ xs) (suc i) b within at = any-at f v xs i b (omega (arith, within)) at

pub any-step : {X Y : Type 0} (f : Y → Bool) (v : X → Y) (xs : List X) (i : ℕ) (b : Bool) → i < length xs
    → ((x : X) → slice_get xs i ≡ Some x → b ≡ f (v x)) → list_any f (map v (drop i xs)) ≡ (b || list_any f (map v (drop (i + 1) xs)))
any-step f v xs i b within at =
    let next : suc i ≡ i + 1 = omega arith in
    any-at f v xs i b within at ∙ ap (λ (n : ℕ). b || list_any f (map v (drop n xs))) next
