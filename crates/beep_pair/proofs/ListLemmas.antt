-- Lists that grow by what is read of another.
use Rattle.std.proofs.Common.{◌≡◌, ℕ, suc, zero, ◌+◌, ◌<◌, ◌≤◌, List, [], ◌∷◌, ◌++◌, length, map, take, get_or, Option, Some, None, refl, ap, sym, ◌∙◌, arith, append_assoc, append-nil, add-one}
use Rattle.std.proofs.Math.Seq.{take-append_seam}
use Rattle.std.specs.List.{flat_map, range_with_len}
use Rattle.std.specs.Prelude.{slice_get}
use Rattle.std.proofs.lemmas.List.FromFn.{map-range_with_len_more}
use Rattle.std.proofs.lemmas.Grind.{flat_map-append}

-- one more item of a range
pub mapped_more : {X : Type 0} (f : ℕ → X) (n : ℕ) → map f (range_with_len 0 n) ++ f n ∷ [] ≡ map f (range_with_len 0 (n + 1))
mapped_more f n = sym (map-range_with_len_more f 0 n n (let e : 0 + n ≡ n = omega arith in e))

pub taken_more : {X : Type 0} (xs : List X) (i : ℕ) (d : X) → i < length xs → take (suc i) xs ≡ take i xs ++ get_or xs i d ∷ []
taken_more [] i d h = absurd (omega arith)
taken_more (x ∷ xs) zero d h = refl
taken_more (x ∷ xs) (suc i) d h = ap (λ ys. x ∷ ys) (taken_more xs i d (omega arith))

-- the texts of one more item
pub texts_more : {X : Type 0} (f : X → List ℕ) (base out next : List ℕ) (xs : List X) (i : ℕ) (x : X) → i < length xs → x ≡ get_or xs i x → out ≡ base ++ flat_map f (take i xs) → next ≡ out ++ f x → next ≡ base ++ flat_map f (take (i + 1) xs)
texts_more f base out next xs i x h is so_far more =
    let items : take (i + 1) xs ≡ take i xs ++ x ∷ [] = ap (λ n. take n xs) (add-one i) ∙ taken_more xs i x h ∙ ap (λ y. take i xs ++ y ∷ []) (sym is) in
    let whole : flat_map f (take (i + 1) xs) ≡ flat_map f (take i xs) ++ f x = ap (flat_map f) items ∙ flat_map-append f (take i xs) (x ∷ []) ∙ ap (λ t. flat_map f (take i xs) ++ t) (append-nil (f x)) in
    more ∙ ap (λ t. t ++ f x) so_far ∙ append_assoc base (flat_map f (take i xs)) (f x) ∙ ap (λ t. base ++ t) (sym whole)

pub taken_all : {X : Type 0} (xs : List X) (i : ℕ) → length xs ≤ i → take i xs ≡ xs
taken_all [] zero h = refl
taken_all [] (suc i) h = refl
taken_all (x ∷ xs) zero h = absurd (omega arith)
taken_all (x ∷ xs) (suc i) h = ap (λ ys. x ∷ ys) (taken_all xs i (omega arith))

-- the item at a place
pub some_at : {X : Type 0} (xs : List X) (i : ℕ) (x : X) → slice_get xs i ≡ Some x → (i < length xs) × (take (suc i) xs ≡ take i xs ++ x ∷ [])
some_at [] zero x e = absurd (let d : None ≡ Some x = e in cc)
some_at [] (suc i) x e = absurd (let d : None ≡ Some x = e in cc)
some_at (y ∷ xs) zero x e = (omega arith, ap (λ z. z ∷ []) (ap (or y) e))
  where
    or : {X : Type 0} → X → Option X → X
    or d None = d
    or d (Some z) = z
some_at (y ∷ xs) (suc i) x e = let r = some_at xs i x e in (omega (arith, r.0), ap (λ ys. y ∷ ys) r.1)

pub none_at : {X : Type 0} (xs : List X) (i : ℕ) → slice_get xs i ≡ None → length xs ≤ i
none_at [] i e = omega arith
none_at (y ∷ xs) zero e = absurd (let d : Some y ≡ None = e in cc)
none_at (y ∷ xs) (suc i) e = let r = none_at xs i e in omega (arith, r)

-- the first octets, as many as stand before some others
pub first_all : (n : ℕ) (xs ys : List ℕ) → n ≡ length xs → take n (xs ++ ys) ≡ xs
first_all n xs ys e = ap (λ k. take k (xs ++ ys)) e ∙ take-append_seam xs ys
