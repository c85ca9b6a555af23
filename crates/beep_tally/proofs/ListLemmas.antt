-- Lists that are edited from their beginning.
use Rattle.std.proofs.Common.{◌≡◌, ℕ, suc, zero, ◌+◌, ◌<◌, ◌≤◌, Bool, true, false, cond, List, [], ◌∷◌, ◌++◌, length, map, take, drop, get_or, set, nat_eq, subst, refl, ap, sym, ◌∙◌, arith, add-one}
use Rattle.std.specs.List.{insert}
use Rattle.beep_schedule.specs.declared.event.End.{End}
use Rattle.beep_tally.specs.declared.account.Stage.{Stage}
use Rattle.beep_tally.specs.declared.account.Account.{Account}
use Rattle.beep_tally.specs.Accounts.{begun_from, goes_before, next_life, staged_at, fresh}

-- the first items of a list are edited, the others stay
pub record Edited {X : Type 0} (f : X → X) (i : ℕ) (xs ys : List X) : Type 0 where
  pub before : take i ys ≡ map f (take i xs)
  pub after : drop i ys ≡ drop i xs

pub edited_none : {X : Type 0} (f : X → X) (xs : List X) → Edited f 0 xs xs
edited_none f xs = record { before = refl; after = refl }

-- one more is edited
pub edited_more : {X : Type 0} (f : X → X) (i : ℕ) (xs ys : List X) (d : X) → i < length ys → Edited f i xs ys → Edited f (suc i) xs (set ys i (f (get_or ys i d)))
edited_more f i xs [] d h e = absurd (omega arith)
edited_more f zero [] (y ∷ ys) d h e = absurd (let c : y ∷ ys ≡ [] = e.after in cc)
edited_more f zero (x ∷ xs) (y ∷ ys) d h e =
    let head : y ≡ x = ap (first_or x) e.after in
    let tail : ys ≡ xs = ap tail_of e.after in
    record { before = ap (λ z. f z ∷ []) head; after = tail }
  where
    first_or : {X : Type 0} → X → List X → X
    first_or d [] = d
    first_or d (z ∷ zs) = z

    tail_of : {X : Type 0} → List X → List X
    tail_of [] = []
    tail_of (z ∷ zs) = zs
edited_more f (suc i) [] (y ∷ ys) d h e = absurd (let c : y ∷ take i ys ≡ [] = e.before in cc)
edited_more f (suc i) (x ∷ xs) (y ∷ ys) d h e =
    let head : y ≡ f x = ap (first_or y) e.before in
    let next = edited_more f i xs ys d (omega arith) (record { before = ap tail_of e.before; after = e.after }) in
    record { before = rw (head) (ap (λ zs. f x ∷ zs) next.before); after = next.after }
  where
    first_or : {X : Type 0} → X → List X → X
    first_or d [] = d
    first_or d (z ∷ zs) = z

    tail_of : {X : Type 0} → List X → List X
    tail_of [] = []
    tail_of (z ∷ zs) = zs

-- one more is looked at, and stays as an edit would leave it
pub edited_same : {X : Type 0} (f : X → X) (i : ℕ) (xs ys : List X) (d : X) → i < length ys → f (get_or ys i d) ≡ get_or ys i d → Edited f i xs ys → Edited f (suc i) xs ys
edited_same f i xs ys d h same e =
    subst (λ zs. Edited f (suc i) xs zs) (ap (set ys i) same ∙ set_own ys i d h) (edited_more f i xs ys d h e)
  where
    set_own : {X : Type 0} (ys : List X) (i : ℕ) (d : X) → i < length ys → set ys i (get_or ys i d) ≡ ys
    set_own [] i d h = absurd (omega arith)
    set_own (y ∷ ys) zero d h = refl
    set_own (y ∷ ys) (suc i) d h = ap (λ zs. y ∷ zs) (set_own ys i d (omega arith))

pub edited_all : {X : Type 0} (f : X → X) (i : ℕ) (xs ys : List X) → length ys ≤ i → length xs ≤ i → Edited f i xs ys → ys ≡ map f xs
edited_all f i xs ys a b e = sym (take_end ys i a) ∙ e.before ∙ ap (map f) (take_end xs i b)
  where
    take_end : {X : Type 0} (zs : List X) (i : ℕ) → length zs ≤ i → take i zs ≡ zs
    take_end [] zero h = refl
    take_end [] (suc i) h = refl
    take_end (z ∷ zs) zero h = absurd (omega arith)
    take_end (z ∷ zs) (suc i) h = ap (λ ws. z ∷ ws) (take_end zs i (omega arith))

-- ---- a life that begins

pub begun_more : (at : End) (number life i : ℕ) (xs : List Account) (d : Account) → i < length xs → goes_before at number (get_or xs i d) ≡ true → begun_from at number life (drop i xs) ≡ get_or xs i d ∷ begun_from at number (next_life number (get_or xs i d)) (drop (suc i) xs)
begun_more at number life i [] d h e = absurd (omega arith)
begun_more at number life zero (x ∷ xs) d h e = rw (e) refl
begun_more at number life (suc i) (x ∷ xs) d h e = begun_more at number life i xs d (omega arith) e

pub begun_here : (at : End) (number life i : ℕ) (xs : List Account) (d : Account) → i < length xs → goes_before at number (get_or xs i d) ≡ false → (nat_eq (get_or xs i d).number number) ≡ true → take i xs ++ begun_from at number life (drop i xs) ≡ set xs i (staged_at at Stage.Live (get_or xs i d))
begun_here at number life i [] d h e n = absurd (omega arith)
begun_here at number life zero (x ∷ xs) d h e n = rw (e, n) refl
begun_here at number life (suc i) (x ∷ xs) d h e n = ap (λ zs. x ∷ zs) (begun_here at number life i xs d (omega arith) e n)

pub edited_next : {X : Type 0} (f : X → X) (i : ℕ) (xs ys : List X) (d y : X) → i < length ys → y ≡ f (get_or ys i d) → Edited f i xs ys → Edited f (i + 1) xs (set ys i y)
edited_next f i xs ys d y h is e =
    subst (λ n. Edited f n xs (set ys i y)) (sym (add-one i)) (subst (λ z. Edited f (suc i) xs (set ys i z)) (sym is) (edited_more f i xs ys d h e))

item_same : {X : Type 0} (i : ℕ) (xs : List X) (d e : X) → i < length xs → get_or xs i d ≡ get_or xs i e
item_same i [] d e h = absurd (omega arith)
item_same zero (x ∷ xs) d e h = refl
item_same (suc i) (x ∷ xs) d e h = item_same i xs d e (omega arith)

pub begun_at : (at : End) (number life i : ℕ) (xs : List Account) (x y z : Account) → i < length xs → x ≡ get_or xs i x → y ≡ get_or xs i y → z ≡ get_or xs i z → goes_before at number x ≡ false → nat_eq y.number number ≡ true → take i xs ++ begun_from at number life (drop i xs) ≡ set xs i (staged_at at Stage.Live z)
begun_at at number life i xs x y z h a b c back same =
    let xz : x ≡ get_or xs i z = a ∙ item_same i xs x z h in
    let yz : y ≡ get_or xs i z = b ∙ item_same i xs y z h in
    begun_here at number life i xs z h (ap (goes_before at number) (sym xz) ∙ back) (ap (λ w. nat_eq w.number number) (sym yz) ∙ same) ∙ ap (λ w. set xs i (staged_at at Stage.Live w)) (sym c)
