-- The first place whose element passes a test.
use Rattle.std.proofs.Common.{◌≡◌, ℕ, zero, suc, ◌+◌, ◌<◌, Bool, true, false, cond, ◌||◌, List, [], ◌∷◌, length, get_or, Option, None, Some, refl, sym, ap, ◌∙◌, arith}
use Rattle.std.specs.Prelude.{is_some}
use Rattle.std.specs.List.{list_any, position, position_from}
use Rattle.std.proofs.lemmas.List.Quantifiers.{position-Some}
use Rattle.std.proofs.lemmas.Iterator.Adapters.{position_from-zero}

-- the element at this place passes, and none before it
abbrev pub IsPlace : {X : Type 0} → (X → Bool) → ℕ → List X → Type 0
IsPlace p i [] = ⊥
IsPlace p zero (x ∷ xs) = p x ≡ true
IsPlace p (suc i) (x ∷ xs) = (p x ≡ false) × IsPlace p i xs

pub place-of : {X : Type 0} (p : X → Bool) (xs : List X) (i : ℕ) (d : X) → i < length xs → p (get_or xs i d) ≡ true
    → ((k : ℕ) → k < i → p (get_or xs k d) ≡ false) → IsPlace p i xs
place-of p [] i d within passes before = absurd (omega arith)
place-of p (x ∷ xs) zero d within passes before = passes
place-of p (x ∷ xs) (suc i) d within passes before =
    (before 0 (omega arith), place-of p xs i d (omega arith) passes (λ k below. before (suc k) (omega arith)))

-- what `position` finds
pub found : {X : Type 0} (p : X → Bool) (xs : List X) (i : ℕ) → position p xs ≡ Some i → IsPlace p i xs
found p [] i e = absurd (let g : None ≡ Some i = e in cc)
found p (x ∷ xs) i e = let f = position-Some p (x ∷ xs) i x e in place-of p (x ∷ xs) i x f.0 f.1 f.2

none-from : {X : Type 0} (p : X → Bool) (i : ℕ) (xs : List X) → position_from p i xs ≡ None → list_any p xs ≡ false
none-from p i [] e = refl
none-from p i (x ∷ xs) e = of (p x) e (none-from p (i + 1) xs)
  where
    of : (b : Bool) → cond b (Some i) (position_from p (i + 1) xs) ≡ None → (position_from p (i + 1) xs ≡ None → list_any p xs ≡ false)
        → (b || list_any p xs) ≡ false
    of true e rest = absurd (let g : Some i ≡ None = e in cc)
    of false e rest = rest e

-- where it finds none
pub none-found : {X : Type 0} (p : X → Bool) (xs : List X) → position p xs ≡ None → list_any p xs ≡ false
none-found p xs e = none-from p 0 xs (sym (position_from-zero p xs) ∙ e)

-- a place is within the list, and some element passes
pub place-within : {X : Type 0} (p : X → Bool) (xs : List X) (i : ℕ) → IsPlace p i xs → i < length xs
place-within p [] i at = absurd at
place-within p (x ∷ xs) zero at = omega arith
place-within p (x ∷ xs) (suc i) at = let rest = place-within p xs i at.1 in omega (arith, rest)

pub place-any : {X : Type 0} (p : X → Bool) (xs : List X) (i : ℕ) → IsPlace p i xs → list_any p xs ≡ true
place-any p [] i at = absurd at
place-any p (x ∷ xs) zero at = ap (λ (b : Bool). b || list_any p xs) at
place-any p (x ∷ xs) (suc i) at = ap (λ (b : Bool). b || list_any p xs) at.0 ∙ place-any p xs i at.1

-- an element passes exactly where a place is found
pub any-found : {X : Type 0} (p : X → Bool) (xs : List X) → is_some (position p xs) ≡ list_any p xs
any-found p xs = of (position p xs) refl
  where
    of : (o : Option ℕ) → position p xs ≡ o → is_some o ≡ list_any p xs
    of None e = sym (none-found p xs e)
    of (Some i) e = sym (place-any p xs i (found p xs i e))

-- no element passes: no place is found
pub not-found : {X : Type 0} (p : X → Bool) (xs : List X) → list_any p xs ≡ false → position p xs ≡ None
not-found p xs e = of (position p xs) refl
  where
    of : (o : Option ℕ) → position p xs ≡ o → o ≡ None
    of None f = refl
    of (Some i) f = absurd (let g = place-any p xs i (found p xs i f) in cc (g, e))

-- there is one such place
pub one-place : {X : Type 0} (p : X → Bool) (xs : List X) (i j : ℕ) → IsPlace p i xs → IsPlace p j xs → i ≡ j
one-place p [] i j at here = absurd at
one-place p (x ∷ xs) zero zero at here = refl
one-place p (x ∷ xs) zero (suc j) at here = absurd (let f = here.0 in cc (at, f))
one-place p (x ∷ xs) (suc i) zero at here = absurd (let f = at.0 in cc (f, here))
one-place p (x ∷ xs) (suc i) (suc j) at here = ap (λ (n : ℕ). suc n) (one-place p xs i j at.1 here.1)
