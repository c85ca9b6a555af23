-- A list of numbers that ascends stays so, and its first ready number is the least.
use Rattle.std.proofs.Common.{◌≡◌, ℕ, zero, suc, ◌+◌, ◌<◌, ◌≤◌, ◌==◌, nat_lt, Bool, true, false, cond, ◌||◌, if◌then◌else◌, List, [], ◌∷◌, ◌++◌, take, drop, slice_get, Option, None, Some, refl, sym, ap, ◌∙◌, arith, subst}
use Rattle.std.proofs.lemmas.Bool.{ltb-true, ltb-false, eqb-true}
use Rattle.std.proofs.lemmas.Bool.Decides.{nat_tests}
use Rattle.std.proofs.lemmas.List.Recursion.{is_count_by}
use Rattle.std.specs.Option.{option_map_or}
use Rattle.std.specs.List.{list_any, position, count_by}
use Rattle.beep_turns.specs.Order.{IsAscending, insert, without, first_true, IsLeastReady}
use Rattle.beep_turns.proofs.PlaceLemmas.{IsPlace, found, none-found}

same-number : (a b : ℕ) → Some a ≡ Some b → a ≡ b
same-number a b e = ap (λ (o : Option ℕ). option_map_or (λ (n : ℕ). n) o a) e

-- the order from a lower number on
lower : (least more : ℕ) (ns : List ℕ) → least ≤ more → IsAscending more ns → IsAscending least ns
lower least more [] h asc = tt
lower least more (n ∷ ns) h asc = (omega (arith, h, asc.0), asc.1)

-- no number is below the first
pub lowest : (least : ℕ) (ns : List ℕ) (i n : ℕ) → IsAscending least ns → slice_get ns i ≡ Some n → least ≤ n
lowest least [] i n asc at = absurd (let g : None ≡ Some n = at in cc)
lowest least (m ∷ ns) zero n asc at = let same = same-number m n at in omega (arith, same, asc.0)
lowest least (m ∷ ns) (suc i) n asc at = let rest = lowest (m + 1) ns i n asc.1 at in omega (arith, rest, asc.0)

-- ---- adding

below : ℕ → List ℕ → ℕ
below number [] = 0
below number (n ∷ ns) = if nat_lt n number then suc (below number ns) else below number ns

below-count : (number : ℕ) (ns : List ℕ) → below number ns ≡ count_by (λ n. nat_lt n number) ns
unfolding below
below-count number ns = is_count_by (below number) (λ n. nat_lt n number) refl step ns
  where
    step : (n : ℕ) (ns : List ℕ) → below number (n ∷ ns) ≡ cond (nat_lt n number) (1 + below number ns) (below number ns)
    step n ns = of (nat_lt n number)
      where
        of : (b : Bool) → (if b then suc (below number ns) else below number ns) ≡ cond b (1 + below number ns) (below number ns)
        of true = omega arith
        of false = refl

none-below : (number least : ℕ) (ns : List ℕ) → number ≤ least → IsAscending least ns → below number ns ≡ 0
unfolding below
none-below number least [] h asc = refl
none-below number least (n ∷ ns) h asc = of (nat_lt n number) refl (none-below number (n + 1) ns (omega (arith, h, asc.0)) asc.1)
  where
    of : (b : Bool) → nat_lt n number ≡ b → below number ns ≡ 0 → (if b then suc (below number ns) else below number ns) ≡ 0
    of true e rest = absurd (let under = ltb-true n number e in omega (arith, under, h, asc.0))
    of false e rest = rest

not-first : (n number : ℕ) (rest : Bool) → ((n == number) || rest) ≡ false → n ≡ number → ⊥
not-first n number rest e same = of (n == number) refl e
  where
    of : (b : Bool) → (n == number) ≡ b → (b || rest) ≡ false → ⊥
    of true f e = let g : true ≡ false = e in cc
    of false f e = let g : (n == number) ≡ true = grind (arith, nat_tests, same) in cc (f, g)

not-rest : (b rest : Bool) → (b || rest) ≡ false → rest ≡ false
not-rest true rest e = absurd (let g : true ≡ false = e in cc)
not-rest false rest e = e

insert-below : (least number : ℕ) (ns : List ℕ) → IsAscending least ns → list_any (λ n. n == number) ns ≡ false
    → take (below number ns) ns ++ number ∷ drop (below number ns) ns ≡ insert number ns
unfolding below
insert-below least number [] asc fresh = refl
insert-below least number (n ∷ ns) asc fresh =
    of (nat_lt n number) (nat_lt number n) refl refl (insert-below (n + 1) number ns asc.1 (not-rest _ _ fresh))
  where
    of : (b a : Bool) → nat_lt n number ≡ b → nat_lt number n ≡ a
        → take (below number ns) ns ++ number ∷ drop (below number ns) ns ≡ insert number ns
        → take (if b then suc (below number ns) else below number ns) (n ∷ ns) ++ number ∷ drop (if b then suc (below number ns) else below number ns) (n ∷ ns)
        ≡ (if a then number ∷ n ∷ ns else n ∷ insert number ns)
    of true true e f rest = absurd (let x = ltb-true n number e in let y = ltb-true number n f in omega (arith, x, y))
    of true false e f rest = ap (λ (xs : List ℕ). n ∷ xs) rest
    of false true e f rest =
        let up = ltb-true number n f in
        let none : below number ns ≡ 0 = none-below number (n + 1) ns (omega (arith, up)) asc.1 in
        rw none refl
    of false false e f rest =
        absurd (not-first n number _ fresh (let x = ltb-false n number e in let y = ltb-false number n f in omega (arith, x, y)))

pub insert-at : (least number place : ℕ) (ns : List ℕ) → IsAscending least ns → list_any (λ n. n == number) ns ≡ false
    → place ≡ count_by (λ n. nat_lt n number) ns → take place ns ++ number ∷ drop place ns ≡ insert number ns
insert-at least number place ns asc fresh e =
    subst (λ (k : ℕ). take k ns ++ number ∷ drop k ns ≡ insert number ns) (below-count number ns ∙ sym e) (insert-below least number ns asc fresh)

pub insert-ascending : (least number : ℕ) (ns : List ℕ) → least ≤ number → IsAscending least ns → list_any (λ n. n == number) ns ≡ false
    → IsAscending least (insert number ns)
insert-ascending least number [] h asc fresh = (h, tt)
insert-ascending least number (n ∷ ns) h asc fresh =
    of (nat_lt number n) refl (λ over. insert-ascending (n + 1) number ns over asc.1 (not-rest _ _ fresh))
  where
    of : (b : Bool) → nat_lt number n ≡ b → (n + 1 ≤ number → IsAscending (n + 1) (insert number ns)) → IsAscending least (if b then number ∷ n ∷ ns else n ∷ insert number ns)
    of true e rest = let up = ltb-true number n e in (h, (omega (arith, up), asc.1))
    of false e rest =
        let down = ltb-false number n e in
        let over : n + 1 ≤ number = let apart = not-first n number _ fresh in omega (arith, down, apart) in
        (asc.0, rest over)

-- ---- removing

pub without-none : (number : ℕ) (ns : List ℕ) → list_any (λ n. n == number) ns ≡ false → ns ≡ without number ns
without-none number [] e = refl
without-none number (n ∷ ns) e = of (n == number) e (without-none number ns)
  where
    of : (b : Bool) → (b || list_any (λ m. m == number) ns) ≡ false → (list_any (λ m. m == number) ns ≡ false → ns ≡ without number ns) → n ∷ ns ≡ (if b then without number ns else n ∷ without number ns)
    of true e rest = absurd (let g : true ≡ false = e in cc)
    of false e rest = ap (λ (xs : List ℕ). n ∷ xs) (rest e)

-- what stands above a number isn't it
above-none : (number least : ℕ) (ns : List ℕ) → number < least → IsAscending least ns → ns ≡ without number ns
above-none number least [] h asc = refl
above-none number least (n ∷ ns) h asc = of (n == number) refl (above-none number (n + 1) ns (omega (arith, h, asc.0)) asc.1)
  where
    of : (b : Bool) → (n == number) ≡ b → ns ≡ without number ns → n ∷ ns ≡ (if b then without number ns else n ∷ without number ns)
    of true e rest = absurd (let same = eqb-true n number e in omega (arith, same, h, asc.0))
    of false e rest = ap (λ (xs : List ℕ). n ∷ xs) rest

remove-place : (least number place : ℕ) (ns : List ℕ) → IsAscending least ns → IsPlace (λ n. n == number) place ns
    → take place ns ++ drop (suc place) ns ≡ without number ns
remove-place least number place [] asc at = absurd at
remove-place least number zero (n ∷ ns) asc at =
    let same = eqb-true n number at in
    above-none number (n + 1) ns (omega (arith, same)) asc.1
    ∙ sym (ap (λ (b : Bool). if b then without number ns else n ∷ without number ns) at)
remove-place least number (suc place) (n ∷ ns) asc at =
    ap (λ (xs : List ℕ). n ∷ xs) (remove-place (n + 1) number place ns asc.1 at.1)
    ∙ sym (ap (λ (b : Bool). if b then without number ns else n ∷ without number ns) at.0)

pub remove-at : (least number place : ℕ) (ns : List ℕ) → IsAscending least ns → position (λ n. n == number) ns ≡ Some place
    → take place ns ++ drop (suc place) ns ≡ without number ns
remove-at least number place ns asc e = remove-place least number place ns asc (found (λ n. n == number) ns place e)

pub without-ascending : (least number : ℕ) (ns : List ℕ) → IsAscending least ns → IsAscending least (without number ns)
without-ascending least number [] asc = tt
without-ascending least number (n ∷ ns) asc = of (n == number) (without-ascending (n + 1) number ns asc.1)
  where
    of : (b : Bool) → IsAscending (n + 1) (without number ns) → IsAscending least (if b then without number ns else n ∷ without number ns)
    of true rest = lower least (n + 1) (without number ns) (omega (arith, asc.0)) rest
    of false rest = (asc.0, rest)

-- ---- the turn

first-place : (flags : List Bool) (ns : List ℕ) (i n : ℕ) → IsPlace (λ flag. flag) i flags → slice_get ns i ≡ Some n
    → Some n ≡ first_true flags ns
first-place [] ns i n at e = absurd at
first-place (flag ∷ flags) [] i n at e = absurd (let g : None ≡ Some n = e in cc)
first-place (flag ∷ flags) (m ∷ ns) zero n at e = sym e ∙ sym (ap (λ (b : Bool). if b then Some m else first_true flags ns) at)
first-place (flag ∷ flags) (m ∷ ns) (suc i) n at e =
    first-place flags ns i n at.1 e ∙ sym (ap (λ (b : Bool). if b then Some m else first_true flags ns) at.0)

pub first-found : (flags : List Bool) (ns : List ℕ) (i n : ℕ) → position (λ flag. flag) flags ≡ Some i → slice_get ns i ≡ Some n
    → Some n ≡ first_true flags ns
first-found flags ns i n e at = first-place flags ns i n (found (λ flag. flag) flags i e) at

first-none : (flags : List Bool) (ns : List ℕ) → list_any (λ flag. flag) flags ≡ false → None ≡ first_true flags ns
first-none [] ns e = refl
first-none (flag ∷ flags) [] e = refl
first-none (flag ∷ flags) (n ∷ ns) e = of flag e (first-none flags ns)
  where
    of : (b : Bool) → (b || list_any (λ flag. flag) flags) ≡ false → (list_any (λ flag. flag) flags ≡ false → None ≡ first_true flags ns) → None ≡ (if b then Some n else first_true flags ns)
    of true e rest = absurd (let g : true ≡ false = e in cc)
    of false e rest = rest e

pub first-missing : (flags : List Bool) (ns : List ℕ) → position (λ flag. flag) flags ≡ None → None ≡ first_true flags ns
first-missing flags ns e = first-none flags ns (none-found (λ flag. flag) flags e)

set-flag : (flags : List Bool) (i : ℕ) → IsPlace (λ flag. flag) i flags → slice_get flags i ≡ Some true
set-flag [] i at = absurd at
set-flag (flag ∷ flags) zero at = ap (λ (b : Bool). Some b) at
set-flag (flag ∷ flags) (suc i) at = set-flag flags i at.1

least-at : (least : ℕ) (flags : List Bool) (ns : List ℕ) (i j n m : ℕ) → IsAscending least ns → IsPlace (λ flag. flag) i flags
    → slice_get ns i ≡ Some n → slice_get ns j ≡ Some m → slice_get flags j ≡ Some true → n ≤ m
least-at least [] ns i j n m asc at e f set = absurd at
least-at least (flag ∷ flags) [] i j n m asc at e f set = absurd (let g : None ≡ Some n = e in cc)
least-at least (flag ∷ flags) (k ∷ ns) zero j n m asc at e f set =
    let same = same-number k n e in let low = lowest k (k ∷ ns) j m (omega arith, asc.1) f in omega (arith, same, low)
least-at least (flag ∷ flags) (k ∷ ns) (suc i) zero n m asc at e f set =
    absurd (let g : Some flag ≡ Some true = set in let h : flag ≡ false = at.0 in cc)
least-at least (flag ∷ flags) (k ∷ ns) (suc i) (suc j) n m asc at e f set = least-at (k + 1) flags ns i j n m asc.1 at.1 e f set

pub least-found : (least : ℕ) (flags : List Bool) (ns : List ℕ) (i n : ℕ) → IsAscending least ns → position (λ flag. flag) flags ≡ Some i
    → slice_get ns i ≡ Some n → IsLeastReady flags ns n
least-found least flags ns i n asc e at =
    let place = found (λ flag. flag) flags i e in
    record {
      ready = record { place = i; at = at; flag = set-flag flags i place };
      least = λ other r. least-at least flags ns i r.place n other asc place at r.at r.flag;
    }
