-- Lists by their places.
use Rattle.std.proofs.Common.{◌≡◌, ℕ, ◌+◌, ◌<◌, List, ◌∷◌, length, drop, Option, None, Some, ap, ◌∙◌}
use Rattle.std.specs.List.{slice_get}
use Rattle.std.proofs.lemmas.List.{drop_more}
use Rattle.std.proofs.lemmas.Option.{slice_get_within, get_or_from_slice_get, slice_get-get_or}

-- what stands from a place on, by what stands there
pub drop-found : {X : Type 0} (xs : List X) (place : ℕ) (x : X) → slice_get xs place ≡ Some x → drop place xs ≡ x ∷ drop (place + 1) xs
drop-found xs place x found =
    drop_more xs place x (slice_get_within xs place x found)
    ∙ ap (λ y. y ∷ drop (place + 1) xs) (get_or_from_slice_get xs place x x found)

apart : {X : Type 0} (o : Option X) (x : X) → o ≡ Some x → o ≡ None → ⊥
apart o x is none = cc

-- a place within a list has something
pub found-within : {X : Type 0} (xs : List X) (place : ℕ) (d : X) → place < length xs → slice_get xs place ≡ None → ⊥
found-within xs place d within none = apart (slice_get xs place) _ (slice_get-get_or xs place d within) none
