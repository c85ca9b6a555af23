-- A list with one element changed, and the element at a place.
use Rattle.std.proofs.Common.{◌≡◌, ℕ, zero, suc, ◌+◌, ◌<◌, ◌≤◌, true, false, List, [], ◌∷◌, ◌++◌, length, take, drop, get_or, set, Option, Some, None, option_map, refl, sym, ap, ap₂, ◌∙◌, arith}
use Rattle.std.specs.List.{slice_get}
use Rattle.beep_memory.specs.Wiring.{Peer, changed, faults_of}

pub drop-none : {A : Type 0} (xs : List A) (i : ℕ) → slice_get xs i ≡ None → drop i xs ≡ []
drop-none [] zero is = refl
drop-none [] (suc i) is = refl
drop-none (x ∷ xs) zero is = absurd (cc is)
drop-none (x ∷ xs) (suc i) is = drop-none xs i is

pub drop-some : {A : Type 0} (xs : List A) (i : ℕ) (x : A) → slice_get xs i ≡ Some x → drop i xs ≡ x ∷ drop (i + 1) xs
drop-some [] i x is = absurd (cc is)
drop-some (y ∷ ys) zero x is =
    let same : y ≡ x = cc is in
    ap (λ z. z ∷ ys) same
drop-some (y ∷ ys) (suc i) x is =
    let e : suc i + 1 ≡ suc (i + 1) = omega arith in
    drop-some ys i x is ∙ ap (λ n. x ∷ drop n (y ∷ ys)) (sym e)

pub within-some : {A : Type 0} (xs : List A) (i : ℕ) (x : A) → slice_get xs i ≡ Some x → i < length xs
within-some [] i x is = absurd (cc is)
within-some (y ∷ ys) zero x is = omega arith
within-some (y ∷ ys) (suc i) x is = omega (arith, within-some ys i x is)

-- ---- one element changed

pub set-changed : (f : Peer → Peer) (xs : List Peer) (i : ℕ) (old new : Peer) → i < length xs → old ≡ get_or xs i old → new ≡ f old → set xs i new ≡ changed f xs i
set-changed f [] i old new within at is = absurd (omega arith)
set-changed f (x ∷ xs) zero old new within at is = ap (λ y. y ∷ xs) (is ∙ ap f at)
set-changed f (x ∷ xs) (suc i) old new within at is = ap (λ ys. x ∷ ys) (set-changed f xs i old new (omega arith) at is)

pub length-changed : (f : Peer → Peer) (xs : List Peer) (i : ℕ) → length (changed f xs i) ≡ length xs
length-changed f [] i = refl
length-changed f (x ∷ xs) zero = refl
length-changed f (x ∷ xs) (suc i) = ap suc (length-changed f xs i)

pub get-changed : (f : Peer → Peer) (xs : List Peer) (i : ℕ) → slice_get (changed f xs i) i ≡ option_map f (slice_get xs i)
get-changed f [] i = refl
get-changed f (x ∷ xs) zero = refl
get-changed f (x ∷ xs) (suc i) = get-changed f xs i

pub get-beside : (f : Peer → Peer) (xs : List Peer) (i other : ℕ) → (other ≡ i → ⊥) → slice_get (changed f xs i) other ≡ slice_get xs other
get-beside f [] i other ne = refl
get-beside f (x ∷ xs) zero zero ne = absurd (ne refl)
get-beside f (x ∷ xs) zero (suc other) ne = refl
get-beside f (x ∷ xs) (suc i) zero ne = refl
get-beside f (x ∷ xs) (suc i) (suc other) ne = get-beside f xs i other (λ e. ne (ap suc e))

-- ---- one more element

pub get-pushed : {A : Type 0} (xs : List A) (x : A) → slice_get (xs ++ x ∷ []) (length xs) ≡ Some x
get-pushed [] x = refl
get-pushed (y ∷ ys) x = get-pushed ys x

pub get-before : {A : Type 0} (xs : List A) (x : A) (i : ℕ) → (i ≡ length xs → ⊥) → slice_get (xs ++ x ∷ []) i ≡ slice_get xs i
get-before [] x zero ne = absurd (ne refl)
get-before [] x (suc i) ne = refl
get-before (y ∷ ys) x zero ne = refl
get-before (y ∷ ys) x (suc i) ne = get-before ys x i (λ e. ne (ap suc e))

pub get-some : {A : Type 0} (xs : List A) (i : ℕ) (x : A) → i < length xs → x ≡ get_or xs i x → slice_get xs i ≡ Some x
get-some [] i x within is = absurd (omega arith)
get-some (y ∷ ys) zero x within is = ap (λ z. Some z) (sym is)
get-some (y ∷ ys) (suc i) x within is = get-some ys i x (omega arith) is

pub faults-at : (xs : List Peer) (i : ℕ) (p : Peer) (most : ℕ) → i < length xs → p ≡ get_or xs i p → p.faults ≤ most → faults_of (slice_get xs i) ≤ most
faults-at xs i p most within is few = rw (get-some xs i p within is) few
