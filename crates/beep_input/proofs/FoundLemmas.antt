-- How far the first line goes, where a search found its LF, or none.
use Rattle.std.proofs.Common.{◌≡◌, ℕ, zero, suc, ◌-◌, ◌<◌, Bool, true, false, ◌==◌, List, [], ◌∷◌, length, take, drop, get_or, refl, ap, subst, arith}
use Rattle.std.proofs.lemmas.List.{take_rest}
use Rattle.memchr.specs.Find.{Nowhere, Passes, is_byte}
use Rattle.beep_input.specs.Walk.{lf_len}

not-so : (b : Bool) → (b ≡ true → ⊥) → b ≡ false
not-so true none = absurd (none refl)
not-so false none = refl

-- what a search from a place on didn't find is none of the octets there
pub none-found : (octets : List ℕ) (from count : ℕ) → Nowhere (Passes (is_byte 10) (take (length octets - from) (drop from octets))) 0 count
    → (k : ℕ) → k < count → (get_or (drop from octets) k 0 == 10) ≡ false
none-found octets from count nowhere k below =
    not-so (get_or (drop from octets) k 0 == 10)
    (subst (λ (hay : List ℕ). Nowhere (Passes (is_byte 10) hay) 0 count) (take_rest octets from) nowhere k (omega arith) below)

pub lf-at : (octets : List ℕ) (n : ℕ) → n < length octets → ((k : ℕ) → k < n → (get_or octets k 0 == 10) ≡ false) → (get_or octets n 0 == 10) ≡ true
    → lf_len octets ≡ n
lf-at [] n within none found = absurd (omega (arith, within))
lf-at (octet ∷ octets) zero within none found = rw found refl
lf-at (octet ∷ octets) (suc n) within none found =
    rw (none 0 (omega arith)) (ap suc (lf-at octets n (omega (arith, within)) (λ k below. none (suc k) (omega (arith, below))) found))

pub lf-none : (octets : List ℕ) → ((k : ℕ) → k < length octets → (get_or octets k 0 == 10) ≡ false) → lf_len octets ≡ length octets
lf-none [] none = refl
lf-none (octet ∷ octets) none =
    rw (none 0 (omega arith)) (ap suc (lf-none octets (λ k below. none (suc k) (omega (arith, below)))))
