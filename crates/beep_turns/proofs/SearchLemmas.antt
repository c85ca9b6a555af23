-- What a search by halves finds in a list of numbers that ascends.
use Rattle.std.proofs.Common.{◌≡◌, ℕ, zero, suc, ◌+◌, ◌<◌, ◌≤◌, ◌==◌, nat_lt, Bool, true, false, ◌||◌, List, [], ◌∷◌, length, get_or, Option, None, Some, refl, sym, ap, ◌∙◌, subst, arith, slice_get}
use Rattle.std.proofs.lemmas.Option.{get_or_from_slice_get, slice_get_within}
use Rattle.std.proofs.lemmas.Bool.{ltb-true, ltb-false}
use Rattle.std.proofs.lemmas.Bool.Decides.{nat_tests}
use Rattle.std.specs.List.{list_any, position}
use Rattle.beep_turns.specs.Order.{IsAscending}
use Rattle.beep_turns.proofs.PlaceLemmas.{IsPlace, place-of, place-any, found, not-found, none-found, one-place}

-- no number is below the first
least-at : (least : ℕ) (ns : List ℕ) (i : ℕ) → IsAscending least ns → i < length ns → least ≤ get_or ns i 0
least-at least [] i asc within = absurd (omega (arith, within))
least-at least (n ∷ ns) zero asc within = asc.0
least-at least (n ∷ ns) (suc i) asc within =
    let rest = least-at (n + 1) ns i asc.1 (omega (arith, within)) in
    let first = asc.0 in omega (arith, rest, first)

-- each number is below the later ones
pub rises : (least : ℕ) (ns : List ℕ) (i j : ℕ) → IsAscending least ns → i < j → j < length ns → get_or ns i 0 < get_or ns j 0
rises least [] i j asc before within = absurd (omega (arith, within))
rises least (n ∷ ns) i zero asc before within = absurd (omega (arith, before))
rises least (n ∷ ns) zero (suc j) asc before within =
    let over = least-at (n + 1) ns j asc.1 (omega (arith, within)) in omega (arith, over)
rises least (n ∷ ns) (suc i) (suc j) asc before within = rises (n + 1) ns i j asc.1 (omega (arith, before)) (omega (arith, within))

apart : (a b : ℕ) → a < b → (a == b) ≡ false
apart a b below = grind (arith, nat_tests, below)

apart-above : (a b : ℕ) → b < a → (a == b) ≡ false
apart-above a b above = grind (arith, nat_tests, above)

same : (a b : ℕ) → a ≡ b → (a == b) ≡ true
same a b e = grind (arith, nat_tests, e)

-- the place that holds a number is the one that `position` gives
pub found-at : (ns : List ℕ) (x i : ℕ) → IsAscending 0 ns → i < length ns → get_or ns i 0 ≡ x
    → position (λ n. n == x) ns ≡ Some i
found-at ns x i asc within here = of (position (λ n. n == x) ns) refl
  where
    place : IsPlace (λ n. n == x) i ns
    place = place-of (λ n. n == x) ns i 0 within (same (get_or ns i 0) x here)
        (λ k before. apart (get_or ns k 0) x (let below = rises 0 ns k i asc before within in omega (arith, below, here)))

    of : (o : Option ℕ) → position (λ n. n == x) ns ≡ o → o ≡ Some i
    of None e = absurd (let none = none-found (λ n. n == x) ns e in let some = place-any (λ n. n == x) ns i place in cc (none, some))
    of (Some j) e = ap (λ (k : ℕ). Some k) (one-place (λ n. n == x) ns j i (found (λ n. n == x) ns j e) place)

none-at : (p : ℕ → Bool) (ns : List ℕ) → ((k : ℕ) → k < length ns → p (get_or ns k 0) ≡ false) → list_any p ns ≡ false
none-at p [] each = refl
none-at p (n ∷ ns) each =
    ap (λ (b : Bool). b || list_any p ns) (each 0 (omega arith)) ∙ none-at p ns (λ k within. each (suc k) (omega (arith, within)))

-- between lower and higher numbers there is none
pub absent : (ns : List ℕ) (x i : ℕ) → ((k : ℕ) → k < i → get_or ns k 0 < x)
    → ((k : ℕ) → i ≤ k → k < length ns → x < get_or ns k 0) → position (λ n. n == x) ns ≡ None
absent ns x i below above = not-found (λ n. n == x) ns (none-at (λ n. n == x) ns each)
  where
    each : (k : ℕ) → k < length ns → (get_or ns k 0 == x) ≡ false
    each k within = of (nat_lt k i) refl
      where
        of : (b : Bool) → nat_lt k i ≡ b → (get_or ns k 0 == x) ≡ false
        of true e = apart (get_or ns k 0) x (below k (ltb-true k i e))
        of false e = apart-above (get_or ns k 0) x (above k (ltb-false k i e) within)

-- the same where the two places may be one
pub rising : (ns : List ℕ) → IsAscending 0 ns → (i j : ℕ) → i ≤ j → j < length ns → get_or ns i 0 ≤ get_or ns j 0
rising ns asc i j before within = of (nat_lt i j) refl
  where
    of : (b : Bool) → nat_lt i j ≡ b → get_or ns i 0 ≤ get_or ns j 0
    of true e = let less = rises 0 ns i j asc (ltb-true i j e) within in omega (arith, less)
    of false e =
        let equal : i ≡ j = let most = ltb-false i j e in omega (arith, most, before) in
        subst (λ (k : ℕ). get_or ns i 0 ≤ get_or ns k 0) equal (omega arith)

-- a number that was read at a place is found there
pub read-there : (ns : List ℕ) (x i n : ℕ) → IsAscending 0 ns → slice_get ns i ≡ Some n → n ≡ x → position (λ m. m == x) ns ≡ Some i
read-there ns x i n asc read here = found-at ns x i asc (slice_get_within ns i n read) (get_or_from_slice_get ns i n 0 read ∙ here)
