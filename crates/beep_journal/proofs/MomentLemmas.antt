-- Lives that begin and end, by the moments of channel zero.
use Rattle.std.proofs.Common.{◌≡◌, ℕ, ◌+◌, ◌<◌, ◌≤◌, ◌==◌, nat_lt, Bool, true, false, not, ◌&&◌, ◌||◌, if◌then◌else◌, List, [], ◌∷◌, refl, ap, arith, subst}
use Rattle.std.proofs.lemmas.Bool.Decides.{nat_tests}
use Rattle.beep_history.specs.declared.journal.Side.{Side}
use Rattle.beep_history.specs.Journal.{same_side}
use Rattle.beep_journal.specs.Lives.{Event, close_came, start_granted, close_granted, lives, has_ended, life_named, is_live}

-- ---- numbers

pub same-number : (n : ℕ) → (n == n) ≡ true
same-number n = grind (arith, nat_tests)

pub equal-number : (a b : ℕ) → (a == b) ≡ true → a ≡ b
equal-number a b e = grind (arith, nat_tests)

pub apart-less : (a b : ℕ) → a < b → (a == b) ≡ false
apart-less a b h = grind (arith, nat_tests)

pub apart-more : (a b : ℕ) → b < a → (a == b) ≡ false
apart-more a b h = grind (arith, nat_tests)

pub positive : (n : ℕ) → 0 < n → nat_lt 0 n ≡ true
positive n h = grind (arith, nat_tests)

pub above-zero : (n : ℕ) → nat_lt 0 n ≡ true → (n == 0) ≡ false
above-zero n h = grind (arith, nat_tests)

pub apart-zero : (c n : ℕ) → (c == 0) ≡ true → (n == 0) ≡ false → (c == n) ≡ false
apart-zero c n z e = grind (arith, nat_tests)

pub and-false : (b : Bool) → (b && false) ≡ false
and-false true = refl
and-false false = refl

pub grows : (b : Bool) (x : ℕ) → x ≤ (if b then x + 1 else x)
grows true x = omega arith
grows false x = omega arith

-- ---- lives by moments

-- a close names a life that has begun
pub named-within : (n : ℕ) (side : Side) (p : ℕ) (es : List Event) → life_named n side p es ≤ lives n es
named-within n side p [] = omega arith
named-within n side p (close_came by q m ∷ es) = of (same_side by side && q == p) (named-within n side p es)
  where
    of : (b : Bool) → life_named n side p es ≤ lives n es → (if b then lives n es else life_named n side p es) ≤ lives n es
    of true h = omega arith
    of false h = h
named-within n side p (start_granted m ∷ es) =
    let h = named-within n side p es in
    let g = grows (m == n && not (nat_lt 0 (lives n es) && not (has_ended n (lives n es) es))) (lives n es) in omega (arith, h, g)
named-within n side p (close_granted by q m ∷ es) = named-within n side p es

-- a life that has not begun has not ended
pub ended-later : (n k : ℕ) (es : List Event) → lives n es < k → has_ended n k es ≡ false
ended-later n k [] l = refl
ended-later n k (close_came by q m ∷ es) l = ended-later n k es l
ended-later n k (start_granted m ∷ es) l =
    let g = grows (m == n && not (nat_lt 0 (lives n es) && not (has_ended n (lives n es) es))) (lives n es) in ended-later n k es (omega (arith, l, g))
ended-later n k (close_granted by q m ∷ es) l =
    let w = named-within n by q es in
    rw (apart-less (life_named n by q es) k (omega (arith, w, l)), ended-later n k es l) (or-nothing (m == n))
  where
    or-nothing : (b : Bool) → ((b && false) || false) ≡ false
    or-nothing true = refl
    or-nothing false = refl

module _ (m : ℕ) (es : List Event) where
  -- a start of another number changes nothing of this one
  pub other-start : (n : ℕ) → (m == n) ≡ false → is_live n (start_granted m ∷ es) ≡ is_live n es
  other-start n e = rw e refl

  pub other-start-lives : (n : ℕ) → (m == n) ≡ false → lives n (start_granted m ∷ es) ≡ lives n es
  other-start-lives n e = rw e refl

  -- a start of a number that is live changes nothing
  pub again-lives : (n : ℕ) → is_live m es ≡ true → lives n (start_granted m ∷ es) ≡ lives n es
  again-lives n live = of (m == n) refl
    where
      of : (b : Bool) → (m == n) ≡ b → lives n (start_granted m ∷ es) ≡ lives n es
      of false e = rw e refl
      of true e = subst (λ (k : ℕ). lives k (start_granted m ∷ es) ≡ lives k es) (equal-number m n e) (rw (same-number m, live) refl)

  pub again-live : (n : ℕ) → is_live m es ≡ true → is_live n (start_granted m ∷ es) ≡ is_live n es
  again-live n live = ap (λ (k : ℕ). nat_lt 0 k && not (has_ended n k es)) (again-lives n live)

  module _ (dead : is_live m es ≡ false) where
    pub start-lives : lives m (start_granted m ∷ es) ≡ lives m es + 1
    start-lives = rw (same-number m, dead) refl

    pub start-live : is_live m (start_granted m ∷ es) ≡ true
    start-live = of _ _ start-lives (ended-later m (lives m (start_granted m ∷ es)) es (let e = start-lives in omega (arith, e)))
      where
        of : (l : ℕ) (b : Bool) → l ≡ lives m es + 1 → b ≡ false → (nat_lt 0 l && not b) ≡ true
        of l b e f = rw (f, positive l (omega (arith, e))) refl

module _ (m : ℕ) (by : Side) (p : ℕ) (es : List Event) where
  pub other-close : (n : ℕ) → (m == n) ≡ false → is_live n (close_granted by p m ∷ es) ≡ is_live n es
  other-close n e = rw e refl

  -- a close that names the live life ends it
  pub close-live : (life_named m by p es == lives m es) ≡ true → is_live m (close_granted by p m ∷ es) ≡ false
  close-live named = rw (same-number m, named) (and-false (nat_lt 0 (lives m es)))

  -- one that names no live life changes nothing
  pub stale-live : (n : ℕ) → (is_live m es && life_named m by p es == lives m es) ≡ false → is_live n (close_granted by p m ∷ es) ≡ is_live n es
  stale-live n stale = of (m == n) refl
    where
      parts : (a b h : Bool) → ((a && not h) && b) ≡ false → (a && not (b || h)) ≡ (a && not h)
      parts false b h e = refl
      parts true false h e = refl
      parts true true true e = refl
      parts true true false e = cc

      of : (b : Bool) → (m == n) ≡ b → is_live n (close_granted by p m ∷ es) ≡ is_live n es
      of false e = other-close n e
      of true e = subst (λ (k : ℕ). is_live k (close_granted by p m ∷ es) ≡ is_live k es) (equal-number m n e)
          (rw (same-number m) (parts (nat_lt 0 (lives m es)) (life_named m by p es == lives m es) (has_ended m (lives m es) es) stale))
