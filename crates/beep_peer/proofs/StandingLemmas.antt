-- The numbers that stand as a request comes.
use Rattle.std.proofs.Common.{◌≡◌, ℕ, zero, suc, ◌+◌, ◌<◌, List, [], ◌∷◌, ◌++◌, length, take, slice_get, Option, None, Some, refl, sym, ap, ◌∙◌, arith, append_assoc, subst}
use Rattle.std.specs.Option.{option_map_or}
use Rattle.std.proofs.lemmas.List.{take_more, length-map}
use Rattle.std.proofs.lemmas.Option.{slice_get_within, slice_get-get_or}
use Rattle.beep_upright.specs.beep_channel.specs.Held.{Live}
use Rattle.beep_upright.specs.beep_lives.specs.Lives.{numbers}
use Rattle.beep_peer.specs.Standing.{rest_of}

-- ---- the numbers above zero

more : (ns : List ℕ) (i n : ℕ) → slice_get ns i ≡ Some n → take (i + 1) ns ≡ take i ns ++ n ∷ []
more ns i n is =
    let within = slice_get_within ns i n is in
    take_more ns i n within
    ∙ ap (λ (o : Option ℕ). take i ns ++ option_map_or (λ (x : ℕ). x) o n ∷ []) (sym (slice_get-get_or ns i n within) ∙ is)

rest-after : (ns others : List ℕ) (i : ℕ) → (i ≡ 0 → ⊥) → i < length ns → rest_of (take i ns ++ others) ≡ rest_of (take i ns) ++ others
rest-after ns others zero above within = absurd (above refl)
rest-after [] others (suc i) above within = absurd (omega arith)
rest-after (n ∷ ns) others (suc i) above within = refl

-- one more of them is listed
pub above-more : (before so_far after ns : List ℕ) (i n : ℕ) → so_far ≡ before ++ rest_of (take i ns) → after ≡ so_far ++ n ∷ []
    → slice_get ns i ≡ Some n → (i ≡ 0 → ⊥) → after ≡ before ++ rest_of (take (i + 1) ns)
above-more before so_far after ns i n is pushed at above =
    pushed ∙ ap (λ (xs : List ℕ). xs ++ n ∷ []) is ∙ append_assoc before (rest_of (take i ns)) (n ∷ [])
    ∙ ap (λ (xs : List ℕ). before ++ xs)
    (sym (rest-after ns (n ∷ []) i above (slice_get_within ns i n at)) ∙ ap rest_of (sym (more ns i n at)))

first-none : (ns : List ℕ) → rest_of (take 1 ns) ≡ []
first-none [] = refl
first-none (n ∷ ns) = refl

-- that of channel zero isn't
pub zero-not : (before so_far ns : List ℕ) (i : ℕ) → so_far ≡ before ++ rest_of (take i ns) → i ≡ 0 → so_far ≡ before ++ rest_of (take (i + 1) ns)
zero-not before so_far ns i is zeroth =
    subst (λ (k : ℕ). so_far ≡ before ++ rest_of (take k ns) → so_far ≡ before ++ rest_of (take (k + 1) ns)) (sym zeroth)
    (λ none. none ∙ ap (λ (xs : List ℕ). before ++ xs) (sym (first-none ns))) is

-- each place has a number
pub each-placed : (channels : List Live) (i : ℕ) → i < length channels → slice_get (numbers channels) i ≡ None → ⊥
each-placed channels i within none =
    cc (sym (slice_get-get_or (numbers channels) i 0 (omega (arith, within, length-map channels (λ (channel : Live). channel.held.number)))) ∙ none)
