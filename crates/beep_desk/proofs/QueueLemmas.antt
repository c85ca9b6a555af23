-- The first of a list that pass a test, and those after them.
use Rattle.std.proofs.Common.{◌≡◌, ◌∙◌, refl, sym, ap, subst, ℕ, suc, ◌+◌, Bool, true, false, cond, List, [], ◌∷◌, ◌++◌, length, take, drop, arith}
use Rattle.std.specs.List.{prefix_len}

-- the first of these doesn't pass a test
abbrev pub IsHeld : {X : Type 0} → (X → Bool) → List X → Type 0
IsHeld p [] = Unit {0}
IsHeld p (x ∷ xs) = p x ≡ false

-- each of these passes it
abbrev pub AllPass : {X : Type 0} → (X → Bool) → List X → Type 0
AllPass p [] = Unit {0}
AllPass p (x ∷ xs) = (p x ≡ true) × AllPass p xs

one-more : (n : ℕ) → 1 + n ≡ suc n
one-more n = omega arith

-- after those that pass it comes one that doesn't
pub held-rest : {X : Type 0} (p : X → Bool) (xs : List X) → IsHeld p (drop (prefix_len p xs) xs)
held-rest p [] = tt
held-rest {X} p (x ∷ xs) = by (p x) refl (held-rest p xs)
  where
    by : (b : Bool) → p x ≡ b → IsHeld p (drop (prefix_len p xs) xs) → IsHeld p (drop (cond b (1 + prefix_len p xs) 0) (x ∷ xs))
    by true e rest = subst (λ n. IsHeld p (drop n (x ∷ xs))) (sym (one-more (prefix_len p xs))) rest
    by false e rest = e

pub none-pass : {X : Type 0} (p : X → Bool) (xs : List X) → IsHeld p xs → prefix_len p xs ≡ 0
none-pass p [] h = refl
none-pass p (x ∷ xs) h = ap (λ b. cond b (1 + prefix_len p xs) 0) h

-- so many pass it
pub pass-count : {X : Type 0} (p : X → Bool) (xs ys : List X) → AllPass p xs → IsHeld p ys → prefix_len p (xs ++ ys) ≡ length xs
pass-count p [] ys a h = none-pass p ys h
pass-count p (x ∷ xs) ys a h =
    ap (λ b. cond b (1 + prefix_len p (xs ++ ys)) 0) a.0 ∙ one-more (prefix_len p (xs ++ ys)) ∙ ap suc (pass-count p xs ys a.1 h)

-- one that doesn't pass in one place doesn't in another
pub held-on : {X : Type 0} (p q : X → Bool) (xs : List X) → ((x : X) → q x ≡ true → p x ≡ true) → IsHeld p xs → IsHeld q xs
held-on p q [] on h = tt
held-on {X} p q (x ∷ xs) on h = by (q x) refl
  where
    by : (b : Bool) → q x ≡ b → b ≡ false
    by true e = absurd (let g : true ≡ false = sym (on x e) ∙ h in cc)
    by false e = refl

pub front-of : {X : Type 0} (xs ys : List X) → take (length xs) (xs ++ ys) ≡ xs
front-of [] ys = refl
front-of (x ∷ xs) ys = ap (λ l. x ∷ l) (front-of xs ys)

pub back-of : {X : Type 0} (xs ys : List X) → drop (length xs) (xs ++ ys) ≡ ys
back-of [] ys = refl
back-of (x ∷ xs) ys = back-of xs ys

-- the first that pass a test begin with these that do
pub take-pass : {X : Type 0} (p : X → Bool) (xs ys : List X) → AllPass p xs → take (prefix_len p (xs ++ ys)) (xs ++ ys) ≡ xs ++ take (prefix_len p ys) ys
take-pass p [] ys a = refl
take-pass p (x ∷ xs) ys a =
    ap (λ b. take (cond b (1 + prefix_len p (xs ++ ys)) 0) (x ∷ (xs ++ ys))) a.0 ∙ ap (λ n. take n (x ∷ (xs ++ ys))) (one-more (prefix_len p (xs ++ ys)))
    ∙ ap (λ l. x ∷ l) (take-pass p xs ys a.1)
