-- Tests of lists of requests, by what is kept of each.
use Rattle.std.proofs.Common.{◌≡◌, ℕ, suc, ◌+◌, ◌<◌, Bool, true, false, ◌||◌, List, [], ◌∷◌, ◌++◌, length, map, filter, take, drop, set, get_or, if◌then◌else◌, refl, sym, ap, ◌∙◌, arith}
use Rattle.std.specs.List.{list_any}
use Rattle.std.proofs.lemmas.List.{map-set, get_or-map, length-map}
use Rattle.std.proofs.lemmas.List.Edits.{map_over_more}
use Rattle.beep_asked.specs.declared.request.Request.{Request}
use Rattle.beep_asked.specs.Kept.{Kept, clear_one}
use Rattle.beep_asked.specs.Request.{kept_of}

-- a test of the values, and the same of what they stand for
pub any-kept : {X Y : Type 0} (f : Y → Bool) (v : X → Y) (xs : List X) → list_any f (map v xs) ≡ list_any (λ x. f (v x)) xs
any-kept f v [] = refl
any-kept f v (x ∷ xs) = ap (λ (b : Bool). f (v x) || b) (any-kept f v xs)

pub count-kept : {X Y : Type 0} (f : Y → Bool) (v : X → Y) (xs : List X) → length (filter f (map v xs)) ≡ length (filter (λ x. f (v x)) xs)
count-kept f v [] = refl
count-kept f v (x ∷ xs) = of (f (v x)) (count-kept f v xs)
  where
    of : (b : Bool) → length (filter f (map v xs)) ≡ length (filter (λ y. f (v y)) xs)
        → length (if b then v x ∷ filter f (map v xs) else filter f (map v xs)) ≡ length (if b then x ∷ filter (λ y. f (v y)) xs else filter (λ y. f (v y)) xs)
    of true e = ap (λ (n : ℕ). suc n) e
    of false e = e

-- one more request is cleared in its place
pub cleared-more : (number : ℕ) (old now : List Request) (i : ℕ) (one cleared : Request) → i < length now → i < length old
    → map kept_of now ≡ map (clear_one number) (take i (map kept_of old)) ++ drop i (map kept_of old)
    → one ≡ get_or now i one → kept_of cleared ≡ clear_one number (kept_of one)
    → map kept_of (set now i cleared) ≡ map (clear_one number) (take (i + 1) (map kept_of old)) ++ drop (i + 1) (map kept_of old)
cleared-more number old now i one cleared here within so_far at is =
    map-set kept_of now i cleared
    ∙ ap (λ (k : Kept). set (map kept_of now) i k) is
    ∙ map_over_more (clear_one number) (map kept_of old) (map kept_of now) i (kept_of one)
    (omega (arith, within, length-map old kept_of)) so_far
    (ap kept_of at ∙ sym (get_or-map kept_of now i one (kept_of one) here))
