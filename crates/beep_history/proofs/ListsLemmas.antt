-- Lists of requests: what a search finds, and which of them wait where the earlier ones are answered.
use Rattle.std.proofs.Common.{◌≡◌, ℕ, zero, suc, ⊎_elim, ◌-◌, ◌<◌, ◌≤◌, ltb, nat_lt, Bool, true, false, cond, not, ◌||◌, List, [], ◌∷◌, length, take, Option, Some, refl, sym, arith}
use Rattle.std.specs.List.{list_any, filter, find}
use Rattle.std.proofs.lemmas.Bool.{lt-ltb, le-ltb, cases_lt}
use Rattle.beep_history.specs.Marks.{Request}

-- ---- any list

-- two tests that agree keep the same
pub filter-agree : {X : Type 0} (f g : X → Bool) (xs : List X) → ((x : X) → f x ≡ g x) → filter f xs ≡ filter g xs
filter-agree f g [] agree = refl
filter-agree f g (x ∷ xs) agree = rw (agree x, filter-agree f g xs agree)

find-holds-step : {X : Type 0} (p : X → Bool) (x r : X) (rest : Option X) (b : Bool) → p x ≡ b
    → (rest ≡ Some r → p r ≡ true) → cond b (Some x) rest ≡ Some r → p r ≡ true
find-holds-step p x r rest true e later found = let same : x ≡ r = cc in rw (← same) e
find-holds-step p x r rest false e later found = later found

-- what is found passes the test
pub find-holds : {X : Type 0} (p : X → Bool) (xs : List X) (r : X) → find p xs ≡ Some r → p r ≡ true
find-holds p [] r found = cc
find-holds p (x ∷ xs) r found = find-holds-step p x r (find p xs) (p x) refl (find-holds p xs r) found

find-any-step : {X : Type 0} (q : X → Bool) (x r : X) (kept : List X) (rest : Option X) (a b : Bool)
    → (r ≡ x → b ≡ true) → (rest ≡ Some r → list_any q kept ≡ false → q r ≡ false)
    → cond a (Some x) rest ≡ Some r → list_any q (cond b (x ∷ kept) kept) ≡ false → q r ≡ false
find-any-step q x r kept rest true true passes later found none =
    let same : x ≡ r = cc in rw (← same) (or-false-left (q x) (list_any q kept) none)
  where
    or-false-left : (y z : Bool) → (y || z) ≡ false → y ≡ false
    or-false-left true z e = e
    or-false-left false z e = refl
find-any-step q x r kept rest true false passes later found none =
    let same : r ≡ x = cc in let bad : false ≡ true = passes same in cc
find-any-step q x r kept rest false true passes later found none = later found (or-false-right (q x) (list_any q kept) none)
  where
    or-false-right : (y z : Bool) → (y || z) ≡ false → z ≡ false
    or-false-right true z e = cc
    or-false-right false z e = e
find-any-step q x r kept rest false false passes later found none = later found none

-- what is found, and kept by a filter, fails a test that none of the kept passes
pub find-any : {X : Type 0} (p q f : X → Bool) (xs : List X) (r : X) → find p xs ≡ Some r → f r ≡ true
    → list_any q (filter f xs) ≡ false → q r ≡ false
find-any p q f [] r found kept none = cc
find-any p q f (x ∷ xs) r found kept none =
    find-any-step q x r (filter f xs) (find p xs) (p x) (f x) (λ (same : r ≡ x). rw (← same) kept)
    (λ g n. find-any p q f xs r g kept n) found none

find-take-step : {X : Type 0} (x r : X) (front rest : Option X) (b : Bool) → (front ≡ Some r → rest ≡ Some r)
    → cond b (Some x) front ≡ Some r → cond b (Some x) rest ≡ Some r
find-take-step x r front rest true later found = found
find-take-step x r front rest false later found = later found

-- what is found in a front is found in the whole
pub find-take : {X : Type 0} (p : X → Bool) (n : ℕ) (xs : List X) (r : X) → find p (take n xs) ≡ Some r → find p xs ≡ Some r
find-take p zero xs r found = cc
find-take p (suc n) [] r found = cc
find-take p (suc n) (x ∷ xs) r found = find-take-step x r (find p (take n xs)) (find p xs) (p x) (find-take p n xs r) found

-- ---- requests by position

-- each request's position is the number of those before it
abbrev pub IsNumbered : List Request → Type 0
IsNumbered [] = Unit {0}
IsNumbered (r ∷ rs) = (r.position ≡ length rs) × IsNumbered rs

find-below-step : (x r : Request) (rest : Option Request) (n : ℕ) (b : Bool) → x.position ≡ n → (rest ≡ Some r → r.position < n)
    → cond b (Some x) rest ≡ Some r → r.position < suc n
find-below-step x r rest n true at later found = let same : x ≡ r = cc in let e : r.position ≡ n = rw (← same) at in omega arith
find-below-step x r rest n false at later found = let h : r.position < n = later found in omega arith

-- a request that is found is at a position below their number
pub find-below : (p : Request → Bool) (rs : List Request) (r : Request) → IsNumbered rs → find p rs ≡ Some r → r.position < length rs
find-below p [] r numbered found = cc
find-below p (x ∷ xs) r numbered found =
    find-below-step x r (find p xs) (length xs) (p x) numbered.0 (find-below p xs r numbered.1) found

take-none : {X : Type 0} (n : ℕ) → take {A = X} n [] ≡ []
take-none zero = refl
take-none (suc n) = refl

take-more-by-one : {X : Type 0} (n m : ℕ) (x : X) (xs : List X) → n ≡ suc m → take n (x ∷ xs) ≡ x ∷ take m xs
take-more-by-one n m x xs e = rw e

take-nothing : {X : Type 0} (n : ℕ) (xs : List X) → n ≡ 0 → take n xs ≡ []
take-nothing n xs e = rw e

filter-newest-before : (oldest : ℕ) (r : Request) (rs : List Request) → r.position ≡ length rs
    → filter (λ x. not (nat_lt x.position oldest)) rs ≡ take (length rs - oldest) rs → r.position < oldest
    → filter (λ x. not (nat_lt x.position oldest)) (r ∷ rs) ≡ take (length (r ∷ rs) - oldest) (r ∷ rs)
filter-newest-before oldest r rs at rest h =
    let test : ltb r.position oldest ≡ true = lt-ltb _ _ h in
    let none : length rs - oldest ≡ 0 = omega arith in
    let none' : suc (length rs) - oldest ≡ 0 = omega arith in
    rw (test, rest, none, none')

filter-newest-from : (oldest : ℕ) (r : Request) (rs : List Request) → r.position ≡ length rs
    → filter (λ x. not (nat_lt x.position oldest)) rs ≡ take (length rs - oldest) rs → oldest ≤ r.position
    → filter (λ x. not (nat_lt x.position oldest)) (r ∷ rs) ≡ take (length (r ∷ rs) - oldest) (r ∷ rs)
filter-newest-from oldest r rs at rest h =
    let test : ltb r.position oldest ≡ false = le-ltb _ _ h in
    let more : suc (length rs) - oldest ≡ suc (length rs - oldest) = omega arith in
    rw (test, rest, more)

-- the requests from a position on are the newest ones
pub filter-newest : (oldest : ℕ) (rs : List Request) → IsNumbered rs
    → filter (λ r. not (nat_lt r.position oldest)) rs ≡ take (length rs - oldest) rs
filter-newest oldest [] numbered = sym (take-none (0 - oldest))
filter-newest oldest (r ∷ rs) numbered =
    ⊎_elim (filter-newest-before oldest r rs numbered.0 (filter-newest oldest rs numbered.1))
    (filter-newest-from oldest r rs numbered.0 (filter-newest oldest rs numbered.1)) (cases_lt r.position oldest)

or-true : (a b : Bool) → b ≡ true → (a || b) ≡ true
or-true true b e = refl
or-true false b e = e

earlier-waits-below : (oldest q : ℕ) (r : Request) (rs : List Request) → oldest < length rs
    → list_any (λ e. nat_lt e.position q) (take (length rs - oldest) rs) ≡ true
    → list_any (λ e. nat_lt e.position q) (take (length (r ∷ rs) - oldest) (r ∷ rs)) ≡ true
earlier-waits-below oldest q r rs below rest =
    let more : suc (length rs) - oldest ≡ suc (length rs - oldest) = omega arith in
    rw more (or-true (ltb r.position q) (list_any (λ e. nat_lt e.position q) (take (length rs - oldest) rs)) rest)

earlier-waits-here : (oldest q : ℕ) (r : Request) (rs : List Request) → r.position ≡ length rs → oldest < suc (length rs) → oldest < q
    → length rs ≤ oldest → list_any (λ e. nat_lt e.position q) (take (length (r ∷ rs) - oldest) (r ∷ rs)) ≡ true
earlier-waits-here oldest q r rs at waits later h =
    let one : suc (length rs) - oldest ≡ suc 0 = omega arith in
    let test : ltb r.position q ≡ true = lt-ltb _ _ (omega arith) in
    rw (one, test)

-- where a request waits, one is earlier than each later position
pub earlier-waits : (oldest q : ℕ) (rs : List Request) → IsNumbered rs → oldest < length rs → oldest < q
    → list_any (λ e. nat_lt e.position q) (take (length rs - oldest) rs) ≡ true
earlier-waits oldest q [] numbered waits later = absurd (omega arith)
earlier-waits oldest q (r ∷ rs) numbered waits later =
    ⊎_elim (λ (h : oldest < length rs). earlier-waits-below oldest q r rs h (earlier-waits oldest q rs numbered.1 h later))
    (earlier-waits-here oldest q r rs numbered.0 waits later) (cases_lt oldest (length rs))
