-- Numbers in lists: whether one is among them, and how many there are.
use Rattle.std.proofs.Common.{◌≡◌, ◌∙◌, refl, sym, ap, subst, ℕ, suc, ◌==◌, ◌≤◌, ◌+◌, Bool, true, false, ◌&&◌, ◌||◌, if◌then◌else◌, List, [], ◌∷◌, ◌++◌, length, filter, Some, arith}
use Rattle.std.specs.Prelude.{is_some}
use Rattle.std.specs.List.{list_all}
use Rattle.std.proofs.lemmas.Bool.Decides.{nat_tests}
use Rattle.beep_peer.specs.beep_journal.proofs.MomentLemmas.{equal-number, same-number}
use Rattle.beep_peer.specs.beep_decide.specs.Decide.{is_among}
use Rattle.beep_peer.specs.beep_channel.specs.Held.{Live}
use Rattle.beep_peer.specs.beep_lives.specs.Lives.{live_at, numbers, IsAscendingFrom}
use Rattle.beep_peer.specs.Standing.{rest_of}

-- ---- lists without a number twice

abbrev pub Distinct : List ℕ → Type 0
Distinct [] = Unit {0}
Distinct (x ∷ xs) = (is_among x xs ≡ false) × Distinct xs

turn : (m n : ℕ) → (m == n) ≡ (n == m)
turn m n = grind (arith, nat_tests)

-- the list without the first place of a number
abbrev without : ℕ → List ℕ → List ℕ
without x [] = []
without x (y ∷ ys) = if y == x then ys else y ∷ without x ys

without-count : (x : ℕ) (ys : List ℕ) → is_among x ys ≡ true → length ys ≡ suc (length (without x ys))
without-count x [] is = absurd cc
without-count x (y ∷ ys) is = by (y == x) (without-count x ys) is
  where
    by : (b : Bool) → (is_among x ys ≡ true → length ys ≡ suc (length (without x ys))) → (b || is_among x ys) ≡ true
        → suc (length ys) ≡ suc (length (if b then ys else y ∷ without x ys))
    by true rest is = refl
    by false rest is = ap suc (rest is)

without-other : (x n : ℕ) (ys : List ℕ) → (x == n) ≡ false → is_among n (without x ys) ≡ is_among n ys
without-other x n [] apart = refl
without-other x n (y ∷ ys) apart = by (y == x) refl (without-other x n ys apart)
  where
    by : (b : Bool) → (y == x) ≡ b → is_among n (without x ys) ≡ is_among n ys
        → is_among n (if b then ys else y ∷ without x ys) ≡ ((y == n) || is_among n ys)
    by true same rest = sym (ap (λ c. c || is_among n ys) (ap (λ m. m == n) (equal-number y x same) ∙ apart))
    by false other rest = ap (λ c. (y == n) || c) rest

without-distinct : (x : ℕ) (ys : List ℕ) → Distinct ys → Distinct (without x ys) × (is_among x (without x ys) ≡ false)
without-distinct x [] d = (tt, refl)
without-distinct x (y ∷ ys) d = by (y == x) refl (without-distinct x ys d.1)
  where
    by : (b : Bool) → (y == x) ≡ b → Distinct (without x ys) × (is_among x (without x ys) ≡ false)
        → Distinct (if b then ys else y ∷ without x ys) × (is_among x (if b then ys else y ∷ without x ys) ≡ false)
    by true same rest = (d.1, subst (λ m. is_among m ys ≡ false) (equal-number y x same) d.0)
    by false other rest =
        ((without-other x y ys (turn x y ∙ other) ∙ d.0, rest.0), ap (λ c. c || is_among x (without x ys)) other ∙ rest.1)

-- two lists of the same numbers, none of them twice, are equally long
pub same-length : (xs ys : List ℕ) → Distinct xs → Distinct ys → ((n : ℕ) → is_among n xs ≡ is_among n ys) → length xs ≡ length ys
same-length [] [] dx dy same = refl
same-length [] (y ∷ ys) dx dy same = absurd (let h : false ≡ true = same y ∙ ap (λ c. c || is_among y ys) (same-number y) in cc)
same-length (x ∷ xs) ys dx dy same =
    let here : is_among x ys ≡ true = sym (same x) ∙ ap (λ c. c || is_among x xs) (same-number x) in
    let d = without-distinct x ys dy in
    ap suc (same-length xs (without x ys) dx.1 d.0 (λ n. rest n (x == n) refl d.1)) ∙ sym (without-count x ys here)
  where
    rest : (n : ℕ) (b : Bool) → (x == n) ≡ b → is_among x (without x ys) ≡ false → is_among n xs ≡ is_among n (without x ys)
    rest n true e gone = subst (λ m. is_among m xs ≡ is_among m (without x ys)) (equal-number x n e) (dx.0 ∙ sym gone)
    rest n false e gone = sym (ap (λ c. c || is_among n xs) e) ∙ same n ∙ sym (without-other x n ys e)

-- ---- those that pass a test

pub all-hold : (p : ℕ → Bool) (n : ℕ) (xs : List ℕ) → list_all p xs ≡ true → is_among n xs ≡ true → p n ≡ true
all-hold p n [] all among = absurd cc
all-hold p n (x ∷ xs) all among = by (p x) refl (x == n) refl all among (all-hold p n xs)
  where
    by : (a : Bool) → p x ≡ a → (b : Bool) → (x == n) ≡ b → (a && list_all p xs) ≡ true → (b || is_among n xs) ≡ true
        → (list_all p xs ≡ true → is_among n xs ≡ true → p n ≡ true) → p n ≡ true
    by true e true same all among rest = subst (λ m. p m ≡ true) (equal-number x n same) e
    by true e false other all among rest = rest all among
    by false e b same all among rest = absurd cc

pub all-of : (p : ℕ → Bool) → ((n : ℕ) → p n ≡ true) → (xs : List ℕ) → list_all p xs ≡ true
all-of p each [] = refl
all-of p each (x ∷ xs) = ap (λ b. b && list_all p xs) (each x) ∙ all-of p each xs

pub among-filter : (p : ℕ → Bool) (n : ℕ) (xs : List ℕ) → is_among n (filter p xs) ≡ (p n && is_among n xs)
among-filter p n [] = none (p n)
  where
    none : (b : Bool) → false ≡ (b && false)
    none true = refl
    none false = refl
among-filter p n (x ∷ xs) = by (p x) refl (x == n) refl (among-filter p n xs)
  where
    last : (b c : Bool) → (b && c) ≡ (b && (false || c))
    last b c = refl

    first : (b c : Bool) → b ≡ true → (true || c) ≡ (b && true)
    first true c e = refl
    first false c e = absurd cc

    by : (b : Bool) → p x ≡ b → (c : Bool) → (x == n) ≡ c → is_among n (filter p xs) ≡ (p n && is_among n xs)
        → is_among n (if b then x ∷ filter p xs else filter p xs) ≡ (p n && ((x == n) || is_among n xs))
    by true e true same rest =
        let here : p n ≡ true = ap p (sym (equal-number x n same)) ∙ e in
        ap (λ c. c || is_among n (filter p xs)) same ∙ first (p n) (is_among n (filter p xs)) here ∙ ap (λ c. p n && (c || is_among n xs)) (sym same)
    by true e false other rest = ap (λ c. c || is_among n (filter p xs)) other ∙ rest ∙ ap (λ c. p n && (c || is_among n xs)) (sym other)
    by false e true same rest =
        let here : p n ≡ false = ap p (sym (equal-number x n same)) ∙ e in
        rest ∙ ap (λ c. c && is_among n xs) here ∙ sym (ap (λ c. c && ((x == n) || is_among n xs)) here)
    by false e false other rest = rest ∙ ap (λ c. p n && (c || is_among n xs)) (sym other)

pub among-append : (n : ℕ) (xs ys : List ℕ) → is_among n (xs ++ ys) ≡ (is_among n xs || is_among n ys)
among-append n [] ys = refl
among-append n (x ∷ xs) ys = by (x == n) (among-append n xs ys)
  where
    by : (b : Bool) → is_among n (xs ++ ys) ≡ (is_among n xs || is_among n ys) → (b || is_among n (xs ++ ys)) ≡ ((b || is_among n xs) || is_among n ys)
    by true rest = refl
    by false rest = rest

-- ---- the numbers of channels

above-none : (least n : ℕ) (cs : List Live) → IsAscendingFrom least cs → suc n ≤ least → is_among n (numbers cs) ≡ false
above-none least n [] a less = refl
above-none least n (c ∷ cs) a less =
    let low = a.0 in
    ap (λ b. b || is_among n (numbers cs)) (apart c.held.number (omega (arith, low, less))) ∙ above-none (c.held.number + 1) n cs a.1 (omega (arith, low, less))
  where
    apart : (m : ℕ) → suc n ≤ m → (m == n) ≡ false
    apart m more = grind (arith, nat_tests, more)

ascending-distinct : (least : ℕ) (cs : List Live) → IsAscendingFrom least cs → Distinct (numbers cs)
ascending-distinct least [] a = tt
ascending-distinct least (c ∷ cs) a = (above-none (c.held.number + 1) c.held.number cs a.1 (omega arith), ascending-distinct (c.held.number + 1) cs a.1)

among-live : (n : ℕ) (cs : List Live) → is_among n (numbers cs) ≡ is_some (live_at n cs)
among-live n [] = refl
among-live n (c ∷ cs) = by (c.held.number == n) (among-live n cs)
  where
    by : (b : Bool) → is_among n (numbers cs) ≡ is_some (live_at n cs) → (b || is_among n (numbers cs)) ≡ is_some (if b then Some c else live_at n cs)
    by true rest = refl
    by false rest = rest

-- the list begins with channel zero
module _ (cs : List Live) (a : IsAscendingFrom 0 cs) (zero_there : is_some (live_at 0 cs) ≡ true) where
  pub rest-distinct : Distinct (rest_of (numbers cs))
  rest-distinct = by cs a
    where
      by : (ds : List Live) → IsAscendingFrom 0 ds → Distinct (rest_of (numbers ds))
      by [] a = tt
      by (d ∷ ds) a = ascending-distinct (d.held.number + 1) ds a.1

  pub rest-live : (n : ℕ) → (n == 0) ≡ false → is_among n (rest_of (numbers cs)) ≡ is_some (live_at n cs)
  rest-live n apart = by cs a zero_there
    where
      by : (ds : List Live) → IsAscendingFrom 0 ds → is_some (live_at 0 ds) ≡ true → is_among n (rest_of (numbers ds)) ≡ is_some (live_at n ds)
      by [] a there = absurd cc
      by (d ∷ ds) a there = of (d.held.number == 0) refl there
        where
          of : (b : Bool) → (d.held.number == 0) ≡ b → is_some (if b then Some d else live_at 0 ds) ≡ true
              → is_among n (numbers ds) ≡ is_some (if d.held.number == n then Some d else live_at n ds)
          of true e there =
              let same : (d.held.number == n) ≡ false = ap (λ m. m == n) (equal-number d.held.number 0 e) ∙ turn 0 n ∙ apart in
              among-live n ds ∙ ap (λ b. is_some (if b then Some d else live_at n ds)) (sym same)
          of false e there =
              absurd (let h : false ≡ true = sym (above-none (d.held.number + 1) 0 ds a.1 (omega arith)) ∙ among-live 0 ds ∙ there in cc)

  pub rest-zero : is_among 0 (rest_of (numbers cs)) ≡ false
  rest-zero = by cs a
    where
      by : (ds : List Live) → IsAscendingFrom 0 ds → is_among 0 (rest_of (numbers ds)) ≡ false
      by [] a = refl
      by (d ∷ ds) a = above-none (d.held.number + 1) 0 ds a.1 (omega arith)
