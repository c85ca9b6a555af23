-- Lists of answer numbers: what is in them, that no number stands twice, and their lengths.
use Rattle.std.proofs.Common.{◌≡◌, ℕ, ◌+◌, ◌==◌, ◌≢◌, Bool, true, false, cond, eqb, suc, not, ◌&&◌, ◌||◌, if◌then◌else◌, List, [], ◌∷◌, ◌++◌, length, refl, sym, ap, ◌∙◌, arith, length-append}
use Rattle.std.specs.List.{list_any}
use Rattle.std.proofs.lemmas.Bool.Decides.{nat_tests}
use Rattle.beep_frame.specs.declared.head.Head.{Head}
use Rattle.beep_frame.specs.Frame.{is_ans}
use Rattle.beep_history.specs.Marks.{with_number, without, unfinished}

-- whether a number is among these
abbrev pub has : ℕ → List ℕ → Bool
has n xs = list_any (λ x. x == n) xs

-- the numbers after a frame of this answer
abbrev pub after_frame : Bool → ℕ → List ℕ → List ℕ
after_frame more a xs = if more then with_number a xs else without a xs

-- no number stands twice
abbrev pub IsApart : List ℕ → Type 0
IsApart [] = Unit {0}
IsApart (x ∷ xs) = (has x xs ≡ false) × IsApart xs

has-push : (n a : ℕ) (xs : List ℕ) → has n (xs ++ a ∷ []) ≡ ((a == n) || has n xs)
has-push n a [] = grind (arith, nat_tests)
has-push n a (x ∷ xs) = let e = has-push n a xs in grind (arith, nat_tests)

has-without : (n a : ℕ) (xs : List ℕ) → has n (without a xs) ≡ (not (a == n) && has n xs)
has-without n a [] = grind (arith, nat_tests)
has-without n a (x ∷ xs) = let e = has-without n a xs in grind (arith, nat_tests)

-- a number that is another's equal is there where the other is
has-same : (n a : ℕ) (xs : List ℕ) → (a == n) ≡ true → has a xs ≡ has n xs
has-same n a [] same = refl
has-same n a (x ∷ xs) same = let e = has-same n a xs same in grind (arith, nat_tests)

-- after a frame of an answer, that answer is unfinished where the frame goes on, and each other is as it was
pub has_after : (n a : ℕ) (more : Bool) (xs : List ℕ) → has n (after_frame more a xs) ≡ (if a == n then more else has n xs)
has_after n a true xs =
    let e = has-push n a xs in
    let s : (a == n) ≡ true → has a xs ≡ has n xs = has-same n a xs in
    grind (arith, nat_tests)
has_after n a false xs = let e = has-without n a xs in grind (arith, nat_tests)

IsApart-push : (a : ℕ) (xs : List ℕ) → has a xs ≡ false → IsApart xs → IsApart (xs ++ a ∷ [])
IsApart-push a [] absent apart = (refl, tt)
IsApart-push a (x ∷ xs) absent apart =
    let e = has-push x a xs in
    let here : has x (xs ++ a ∷ []) ≡ false = grind (arith, nat_tests) in
    let there : has a xs ≡ false = grind (arith, nat_tests) in
    (here, IsApart-push a xs there apart.1)

IsApart-without : (a : ℕ) (xs : List ℕ) → IsApart xs → IsApart (without a xs)
IsApart-without a [] apart = tt
IsApart-without a (x ∷ xs) apart =
    let e = has-without x a xs in
    let here : has x (without a xs) ≡ false = grind (arith, nat_tests) in
    elim (eqb x a) as (λ (b : Bool). IsApart (cond (not b) (x ∷ without a xs) (without a xs)))
    [ true ↦ IsApart-without a xs apart.1 | false ↦ (here, IsApart-without a xs apart.1) ]

IsApart-with : (a : ℕ) (xs : List ℕ) (had : Bool) → has a xs ≡ had → IsApart xs → IsApart (if had then xs else xs ++ a ∷ [])
IsApart-with a xs true e apart = apart
IsApart-with a xs false e apart = IsApart-push a xs e apart

IsApart-after : (a : ℕ) (more : Bool) (xs : List ℕ) → IsApart xs → IsApart (after_frame more a xs)
IsApart-after a true xs apart = IsApart-with a xs (has a xs) refl apart
IsApart-after a false xs apart = IsApart-without a xs apart

-- the unfinished answers of a reply are apart
pub IsApart-unfinished : (frames : List Head) → IsApart (unfinished frames)
IsApart-unfinished [] = tt
IsApart-unfinished (head ∷ before) =
    elim (is_ans head.kind) as (λ (b : Bool). IsApart (if b then after_frame head.more head.ansno (unfinished before) else unfinished before)) [
      | true ↦ IsApart-after head.ansno head.more (unfinished before) (IsApart-unfinished before)
      | false ↦ IsApart-unfinished before
    ]

-- taking out a number that isn't there changes no length
without-absent : (a : ℕ) (xs : List ℕ) → has a xs ≡ false → length (without a xs) ≡ length xs
without-absent a [] absent = refl
without-absent a (x ∷ xs) absent =
    let there : has a xs ≡ false = grind (arith, nat_tests) in
    let here : eqb x a ≡ false = grind (arith, nat_tests) in
    let e = without-absent a xs there in
    rw here (ap (λ n. suc n) e)

-- taking out a number that is there takes one away
length-without-step : (a x : ℕ) (xs : List ℕ) (b : Bool) → eqb x a ≡ b → has x xs ≡ false
    → length (without a xs) + (if has a xs then 1 else 0) ≡ length xs
    → length (if not b then x ∷ without a xs else without a xs) + (if b || has a xs then 1 else 0) ≡ suc (length xs)
length-without-step a x xs true e apart rest =
    let s : has x xs ≡ has a xs = has-same a x xs e in
    let there : has a xs ≡ false = sym s ∙ apart in
    let k = without-absent a xs there in
    omega arith
length-without-step a x xs false e apart rest = omega (arith, rest)

length-without : (a : ℕ) (xs : List ℕ) → IsApart xs → length (without a xs) + (if has a xs then 1 else 0) ≡ length xs
length-without a [] apart = refl
length-without a (x ∷ xs) apart = length-without-step a x xs (eqb x a) refl apart.0 (length-without a xs apart.1)

length-with : (a : ℕ) (xs : List ℕ) (had : Bool)
    → length (if had then xs else xs ++ a ∷ []) + (if had && false then 1 else 0) ≡ length xs + (if not had then 1 else 0)
length-with a xs true = omega arith
length-with a xs false = omega (arith, length-append xs (a ∷ []))

length-taken : (a : ℕ) (xs : List ℕ) (had : Bool) → length (without a xs) + (if had then 1 else 0) ≡ length xs
    → length (without a xs) + (if had && true then 1 else 0) ≡ length xs + 0
length-taken a xs true e = omega (arith, e)
length-taken a xs false e = omega (arith, e)

-- how many there are after a frame of an answer
pub length_after : (a : ℕ) (more : Bool) (xs : List ℕ) → IsApart xs
    → length (after_frame more a xs) + (if has a xs && not more then 1 else 0) ≡ length xs + (if more && not (has a xs) then 1 else 0)
length_after a true xs apart = length-with a xs (has a xs)
length_after a false xs apart = length-taken a xs (has a xs) (length-without a xs apart)

-- ---- the unfinished answers of a reply, by its latest frame

by-number : (a n : ℕ) (more rest left : Bool) → left ≡ (if a == n then more else rest) → a ≡ n → left ≡ more
by-number a n more rest left e same = grind (arith, nat_tests)

by-other : (a n : ℕ) (more rest left : Bool) → left ≡ (if a == n then more else rest) → a ≢ n → left ≡ rest
by-other a n more rest left e other = grind (arith, nat_tests)

after-answer : (n : ℕ) (frames : List Head) (head : Head) (before : List Head) → frames ≡ head ∷ before → is_ans head.kind ≡ true
    → has n (unfinished frames) ≡ (if head.ansno == n then head.more else has n (unfinished before))
after-answer n frames head before is answer = rw (is, answer) (has_after n head.ansno head.more (unfinished before))

pub unfinished-same : (n : ℕ) (frames : List Head) (head : Head) (before : List Head) → frames ≡ head ∷ before
    → is_ans head.kind ≡ true → head.ansno ≡ n → list_any (λ x. x == n) (unfinished frames) ≡ head.more
unfinished-same n frames head before is answer same =
    by-number head.ansno n head.more (has n (unfinished before)) (has n (unfinished frames)) (after-answer n frames head before is answer) same

pub unfinished-other : (n : ℕ) (frames : List Head) (head : Head) (before : List Head) → frames ≡ head ∷ before
    → is_ans head.kind ≡ true → head.ansno ≢ n
    → list_any (λ x. x == n) (unfinished frames) ≡ list_any (λ x. x == n) (unfinished before)
unfinished-other n frames head before is answer other =
    by-other head.ansno n head.more (has n (unfinished before)) (has n (unfinished frames)) (after-answer n frames head before is answer) other

pub length-unfinished : (frames : List Head) (head : Head) (before : List Head) → frames ≡ head ∷ before → is_ans head.kind ≡ true
    → length (unfinished frames)
    + (if list_any (λ x. x == head.ansno) (unfinished before) && not head.more then 1 else 0)
    ≡ length (unfinished before) + (if head.more && not (list_any (λ x. x == head.ansno) (unfinished before)) then 1 else 0)
length-unfinished frames head before is answer =
    rw (is, answer) (length_after head.ansno head.more (unfinished before) (IsApart-unfinished before))

-- a complete frame of an unfinished answer takes one away
pub length-unfinished-ended : (frames : List Head) (head : Head) (before : List Head) → frames ≡ head ∷ before → is_ans head.kind ≡ true
    → head.more ≡ false → true ≡ list_any (λ x. x == head.ansno) (unfinished before)
    → length (unfinished frames) + 1 ≡ length (unfinished before)
length-unfinished-ended frames head before is answer complete had =
    let e = rw (complete, ← had) at (length-unfinished frames head before is answer) in omega (arith, e)

-- a complete frame of an answer of its own leaves the others
pub length-unfinished-alone : (frames : List Head) (head : Head) (before : List Head) → frames ≡ head ∷ before → is_ans head.kind ≡ true
    → head.more ≡ false → false ≡ list_any (λ x. x == head.ansno) (unfinished before)
    → length (unfinished frames) ≡ length (unfinished before)
length-unfinished-alone frames head before is answer complete had =
    let e = rw (complete, ← had) at (length-unfinished frames head before is answer) in omega (arith, e)

pub ruleset unfinished_steps = (unfinished-same, unfinished-other, length-unfinished)
