-- A list with one link changed, or one more, and the link at a place.
use Rattle.std.proofs.Common.{◌≡◌, ℕ, zero, suc, ◌<◌, true, List, [], ◌∷◌, ◌++◌, length, get_or, set, Some, option_map, refl, ap, ◌∙◌, arith}
use Rattle.std.specs.List.{slice_get}
use Rattle.beep_std.specs.Sockets.{Socket, changed, link_of}

pub set-changed : (f : Socket → Socket) (xs : List Socket) (i : ℕ) (old new : Socket) → i < length xs → old ≡ get_or xs i old → new ≡ f old → set xs i new ≡ changed f xs i
set-changed f [] i old new within at is = absurd (omega arith)
set-changed f (x ∷ xs) zero old new within at is = ap (λ y. y ∷ xs) (is ∙ ap f at)
set-changed f (x ∷ xs) (suc i) old new within at is = ap (λ ys. x ∷ ys) (set-changed f xs i old new (omega arith) at is)

pub length-changed : (f : Socket → Socket) (xs : List Socket) (i : ℕ) → length (changed f xs i) ≡ length xs
length-changed f [] i = refl
length-changed f (x ∷ xs) zero = refl
length-changed f (x ∷ xs) (suc i) = ap suc (length-changed f xs i)

pub get-changed : (f : Socket → Socket) (xs : List Socket) (i : ℕ) → slice_get (changed f xs i) i ≡ option_map f (slice_get xs i)
get-changed f [] i = refl
get-changed f (x ∷ xs) zero = refl
get-changed f (x ∷ xs) (suc i) = get-changed f xs i

pub get-beside : (f : Socket → Socket) (xs : List Socket) (i other : ℕ) → (other ≡ i → ⊥) → slice_get (changed f xs i) other ≡ slice_get xs other
get-beside f [] i other ne = refl
get-beside f (x ∷ xs) zero zero ne = absurd (ne refl)
get-beside f (x ∷ xs) zero (suc other) ne = refl
get-beside f (x ∷ xs) (suc i) zero ne = refl
get-beside f (x ∷ xs) (suc i) (suc other) ne = get-beside f xs i other (λ e. ne (ap suc e))

pub get-pushed : (xs : List Socket) (x : Socket) → slice_get (xs ++ x ∷ []) (length xs) ≡ Some x
get-pushed [] x = refl
get-pushed (y ∷ ys) x = get-pushed ys x

pub get-before : (xs : List Socket) (x : Socket) (i : ℕ) → (i ≡ length xs → ⊥) → slice_get (xs ++ x ∷ []) i ≡ slice_get xs i
get-before [] x zero ne = absurd (ne refl)
get-before [] x (suc i) ne = refl
get-before (y ∷ ys) x zero ne = refl
get-before (y ∷ ys) x (suc i) ne = get-before ys x i (λ e. ne (ap suc e))

-- a link that is open was given
pub open-socket : (links : List Socket) (link : ℕ) → (link_of (slice_get links link)).is_open ≡ true → (s : Socket) × (slice_get links link ≡ Some s)
open-socket [] link alive = absurd (cc alive)
open-socket (s ∷ links) zero alive = (s, refl)
open-socket (s ∷ links) (suc link) alive = open-socket links link alive

pub open-within : (links : List Socket) (link : ℕ) → (link_of (slice_get links link)).is_open ≡ true → link < length links
open-within [] link alive = absurd (cc alive)
open-within (s ∷ links) zero alive = omega arith
open-within (s ∷ links) (suc link) alive = omega (arith, open-within links link alive)
