-- The numbers of requests against the requests: what a look-up among the last numbers tells of the latest request.
use Rattle.std.proofs.Common.{◌≡◌, ℕ, zero, suc, ◌+◌, ◌<◌, ◌==◌, nat_lt, Bool, true, false, cond, not, ◌&&◌, ◌||◌, if◌then◌else◌, List, [], ◌∷◌, length, take, drop, map, get_or, Option, Some, None, refl, sym, ap, ◌∙◌, arith, subst}
use Rattle.std.specs.List.{list_any, find}
use Rattle.std.specs.Option.{option_map_or, is_none}
use Rattle.std.proofs.lemmas.Bool.{lt-ltb, le-ltb, eqb-true, ne_eqb, eq-eqb}
use Rattle.std.proofs.lemmas.Bool.Decides.{nat_tests}
use Rattle.beep_history.specs.Marks.{first, Request}
use Rattle.beep_history.proofs.AnswersLemmas.{has}
use Rattle.beep_history.proofs.ListsLemmas.{IsNumbered, find-below}
use Rattle.beep_history.proofs.SoundLemmas.{IsApartFirst}
use Rattle.beep_history.proofs.UnbrokenLemmas.{any-whole}

-- the numbers of requests
abbrev pub num : List Request → List ℕ
num rs = map (λ (request : Request). request.number) rs

-- the latest request of a number
abbrev pub at : ℕ → List Request → Option Request
at n rs = find (λ (request : Request). request.number == n) rs

pub take-num : (k : ℕ) (rs : List Request) → take k (num rs) ≡ num (take k rs)
take-num zero rs = refl
take-num (suc k) [] = refl
take-num (suc k) (r ∷ rs) = ap (λ (ns : List ℕ). r.number ∷ ns) (take-num k rs)

none-step : (b : Bool) (r : Request) (rest : Option Request) (any : Bool) → is_none rest ≡ not any
    → is_none (cond b (Some r) rest) ≡ not (b || any)
none-step true r rest any e = refl
none-step false r rest any e = e

-- a number that no request has is not among the numbers
pub none-has : (n : ℕ) (rs : List Request) → is_none (at n rs) ≡ not (has n (num rs))
none-has n [] = refl
none-has n (r ∷ rs) = none-step (r.number == n) r (at n rs) (has n (num rs)) (none-has n rs)

by-found : (b : Bool) (r : Request) (rest : Option Request) (f g : Request → Bool) (a : Bool)
    → (b ≡ true → f r ≡ true) → option_map_or g rest false ≡ a → ((x : Request) → rest ≡ Some x → f x ≡ g x)
    → option_map_or f (cond b (Some r) rest) false ≡ (b || a)
by-found true r rest f g a here e later = here refl
by-found false r None f g a here e later = e
by-found false r (Some x) f g a here e later = later x refl ∙ e

beyond : (n : ℕ) (rs : List Request) (o : Option Request) → IsNumbered rs → at n rs ≡ o
    → false ≡ option_map_or (λ (r : Request). nat_lt (length rs) (r.position + 0 + 1)) o false
beyond n rs None numbered e = refl
beyond n rs (Some r) numbered e =
    let below : r.position < length rs = find-below (λ (x : Request). x.number == n) rs r numbered e in
    sym (le-ltb _ _ (omega arith))

more-both : (l p k : ℕ) → nat_lt (suc l) (p + suc k + 1) ≡ nat_lt l (p + k + 1)
more-both l p k = grind (arith, nat_tests)

-- a number is among the newest where its latest request is one of them
pub has-take : (n k : ℕ) (rs : List Request) → IsNumbered rs
    → has n (take k (num rs)) ≡ option_map_or (λ (r : Request). nat_lt (length rs) (r.position + k + 1)) (at n rs) false
has-take n zero rs numbered = beyond n rs (at n rs) numbered refl
has-take n (suc k) [] numbered = refl
has-take n (suc k) (r ∷ rs) numbered =
    sym (by-found (r.number == n) r (at n rs)
    (λ (x : Request). nat_lt (suc (length rs)) (x.position + suc k + 1)) (λ (x : Request). nat_lt (length rs) (x.position + k + 1))
    (has n (take k (num rs)))
    (λ e. lt-ltb _ _ (omega (arith, numbered.0))) (sym (has-take n k rs numbered.1)) (λ x e. more-both (length rs) x.position k))

or-nothing : (b : Bool) → (b || false) ≡ b
or-nothing true = refl
or-nothing false = refl

nothing : (o : Option Request) → option_map_or (λ (r : Request). false) o false ≡ false
nothing None = refl
nothing (Some r) = refl

-- the newest has this number where it is the latest request of it
pub first-is : (n : ℕ) (rs : List Request) → IsNumbered rs
    → option_map_or (λ x. x == n) (first (num rs)) false ≡ option_map_or (λ (r : Request). r.position + 1 == length rs) (at n rs) false
first-is n [] numbered = refl
first-is n (r ∷ rs) numbered =
    sym (by-found (r.number == n) r (at n rs) (λ (x : Request). x.position + 1 == suc (length rs)) (λ (x : Request). false) false
    (λ e. eq-eqb _ _ (omega (arith, numbered.0))) (nothing (at n rs))
    (λ x e. let below : x.position < length rs = find-below (λ (y : Request). y.number == n) rs x numbered.1 e in ne_eqb _ _ (λ h. omega arith))
    ∙ or-nothing (r.number == n))

nth-has : (w : ℕ) (ns : List ℕ) → w < length ns → has (get_or ns w 0) (take (suc w) ns) ≡ true
nth-has w [] h = absurd (omega arith)
nth-has zero (x ∷ ns) h = grind (arith, nat_tests)
nth-has (suc w) (x ∷ ns) h = or-later (x == get_or ns w 0) _ (nth-has w ns (omega arith))
  where
    or-later : (a b : Bool) → b ≡ true → (a || b) ≡ true
    or-later true b e = refl
    or-later false b e = e

length-num : (rs : List Request) → length (num rs) ≡ length rs
length-num [] = refl
length-num (r ∷ rs) = ap suc (length-num rs)

nth-step : (n w : ℕ) (r : Request) (rs : List Request) (b : Bool) → (r.number == n) ≡ b → r.position ≡ length rs → w < length rs
    → has r.number (take (suc w) (num rs)) ≡ false
    → (get_or (num rs) w 0 == n) ≡ option_map_or (λ (x : Request). x.position + suc w == length rs) (at n rs) false
    → (get_or (num rs) w 0 == n) ≡ option_map_or (λ (x : Request). x.position + suc (suc w) == suc (length rs)) (cond b (Some r) (at n rs)) false
nth-step n w r rs true e placed within apart rest =
    let there : has (get_or (num rs) w 0) (take (suc w) (num rs)) ≡ true = nth-has w (num rs) (omega (arith, length-num rs)) in
    let same : r.number ≡ n = eqb-true _ _ e in
    let far : (r.position + suc (suc w) == suc (length rs)) ≡ false = ne_eqb _ _ (λ h. omega arith) in
    ne_eqb _ _ (λ (h : get_or (num rs) w 0 ≡ n).
    let k : has r.number (take (suc w) (num rs)) ≡ true = subst (λ (x : ℕ). has x (take (suc w) (num rs)) ≡ true) (h ∙ sym same) there in
    let clash : true ≡ false = sym k ∙ apart in cc) ∙ sym far
nth-step n w r rs false e placed within apart rest = rest ∙ same-tests (at n rs)
  where
    same-tests : (o : Option Request) → option_map_or (λ (x : Request). x.position + suc w == length rs) o false
        ≡ option_map_or (λ (x : Request). x.position + suc (suc w) == suc (length rs)) o false
    same-tests None = refl
    same-tests (Some x) = grind (arith, nat_tests)

-- the number at a place, where the newest are apart
pub nth-is : (n w : ℕ) (rs : List Request) → IsNumbered rs → IsApartFirst (suc w) (num rs) → w < length rs
    → (get_or (num rs) w 0 == n) ≡ option_map_or (λ (r : Request). r.position + suc w == length rs) (at n rs) false
nth-is n w [] numbered apart within = absurd (omega arith)
nth-is n zero (r ∷ rs) numbered apart within = first-is n (r ∷ rs) numbered
nth-is n (suc w) (r ∷ rs) numbered apart within =
    nth-step n w r rs (r.number == n) refl numbered.0 (omega arith) apart.0 (nth-is n w rs numbered.1 apart.1 (omega arith))

and-false : (a b rest : Bool) → b ≡ false → ((a && b) || rest) ≡ rest
and-false true b rest e = rw e
and-false false b rest e = refl

use-open : (n w : ℕ) (rs : List Request) → IsNumbered rs
    → list_any (λ (r : Request). r.number == n && nat_lt (r.position + 1) (length rs)) (take w rs) ≡ has n (drop 1 (take w (num rs)))
use-open n zero rs numbered = refl
use-open n (suc w) [] numbered = refl
use-open n (suc w) (r ∷ rs) numbered =
    and-false (r.number == n) (nat_lt (r.position + 1) (suc (length rs))) _ (le-ltb _ _ (omega (arith, numbered.0)))
    ∙ any-whole n (λ p. nat_lt (p + 1) (suc (length rs))) w rs numbered.1 (λ p h. lt-ltb _ _ (omega arith))

-- of the newest requests, those that have wholly passed
pub use-is : (n w : ℕ) (b : Bool) (rs : List Request) → IsNumbered rs
    → list_any (λ (r : Request). r.number == n && nat_lt (r.position + (if b then 1 else 0)) (length rs)) (take w rs)
    ≡ has n (drop (if b then 1 else 0) (take w (num rs)))
use-is n w true rs numbered = use-open n w rs numbered
use-is n w false rs numbered = any-whole n (λ p. nat_lt (p + 0) (length rs)) w rs numbered (λ p h. lt-ltb _ _ (omega arith))
