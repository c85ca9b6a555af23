-- The first piece of a body, and those after it.
use Rattle.std.proofs.Common.{◌≡◌, ℕ, suc, ◌+◌, ◌-◌, ◌<◌, ◌≤◌, Bool, true, false, ◌&&◌, ◌==◌, List, [], ◌∷◌, ◌++◌, length, take, drop, get_or, inl, inr, refl, sym, ap, ap₂, ◌∙◌, arith, eqb-true, length-drop}
use Rattle.std.proofs.lemmas.Bool.{cases_Bool}
use Rattle.std.proofs.lemmas.List.{drop_more}
use Rattle.prof_raw.specs.Entries.{begins_with_lf, put, pieces_of, HasNoLineEnd, joined}
use Rattle.prof_raw.specs.Walk.{begins_with_end, piece_len}

pub left_of : (a b : Bool) → (a && b) ≡ true → a ≡ true
left_of true b _ = refl
left_of false b is = is

pub right_of : (a b : Bool) → (a && b) ≡ true → b ≡ true
right_of true b is = is
right_of false b is = absurd (cc is)

and-false : (b : Bool) → (b && false) ≡ false
and-false true = refl
and-false false = refl

-- ---- the first piece and the others, of pieces that may be none

abbrev pub first_of : List (List ℕ) → List ℕ
first_of [] = []
first_of (piece ∷ pieces) = piece

abbrev pub others_of : List (List ℕ) → List (List ℕ)
others_of [] = []
others_of (piece ∷ pieces) = pieces

put-plain : (octet : ℕ) (pieces : List (List ℕ)) → (octet == 13 && begins_with_lf (first_of pieces)) ≡ false
    → put octet pieces ≡ (octet ∷ first_of pieces) ∷ others_of pieces
put-plain octet [] is = refl
put-plain octet (piece ∷ pieces) is = rw is refl

put-end : (octet : ℕ) (pieces : List (List ℕ)) → (octet == 13 && begins_with_lf (first_of pieces)) ≡ true
    → put octet pieces ≡ [] ∷ drop 1 (first_of pieces) ∷ others_of pieces
put-end octet [] is = absurd (cc (right_of (octet == 13) false is))
put-end octet (piece ∷ pieces) is = rw is refl

-- what the pieces of octets begin with is what the octets do
lf-first : (octets : List ℕ) → begins_with_lf (first_of (pieces_of octets)) ≡ begins_with_lf octets
lf-first [] = refl
lf-first (octet ∷ octets) = elim (cases_Bool (octet == 13 && begins_with_lf (first_of (pieces_of octets)))) as (λ _. begins_with_lf (first_of (pieces_of (octet ∷ octets))) ≡ begins_with_lf (octet ∷ octets)) [
  | inl is ↦
      let cr : octet ≡ 13 = eqb-true octet 13 (left_of _ _ is) in
      ap (λ pieces. begins_with_lf (first_of pieces)) (put-end octet (pieces_of octets) is) ∙ rw cr refl
  | inr is ↦ ap (λ pieces. begins_with_lf (first_of pieces)) (put-plain octet (pieces_of octets) is)
]

same_test : (octet : ℕ) (octets : List ℕ) (b : Bool) → begins_with_end (octet ∷ octets) ≡ b → (octet == 13 && begins_with_lf (first_of (pieces_of octets))) ≡ b
same_test octet octets b is = ap (λ lf. octet == 13 && lf) (lf-first octets) ∙ is

pub pieces-plain : (octet : ℕ) (octets : List ℕ) → begins_with_end (octet ∷ octets) ≡ false
    → pieces_of (octet ∷ octets) ≡ (octet ∷ first_of (pieces_of octets)) ∷ others_of (pieces_of octets)
pieces-plain octet octets is = put-plain octet (pieces_of octets) (same_test octet octets false is)

pub pieces-end : (octet : ℕ) (octets : List ℕ) → begins_with_end (octet ∷ octets) ≡ true
    → pieces_of (octet ∷ octets) ≡ [] ∷ drop 1 (first_of (pieces_of octets)) ∷ others_of (pieces_of octets)
pieces-end octet octets is = put-end octet (pieces_of octets) (same_test octet octets true is)

-- ---- how far the first piece goes

pub len-plain : (octet : ℕ) (octets : List ℕ) → begins_with_end (octet ∷ octets) ≡ false → piece_len (octet ∷ octets) ≡ suc (piece_len octets)
len-plain octet octets is = rw is refl

len-end : (octet : ℕ) (octets : List ℕ) → begins_with_end (octet ∷ octets) ≡ true → piece_len (octet ∷ octets) ≡ 0
len-end octet octets is = rw is refl

pub len-within : (body : List ℕ) → piece_len body ≤ length body
len-within [] = omega arith
len-within (octet ∷ octets) = elim (cases_Bool (begins_with_end (octet ∷ octets))) as (λ _. piece_len (octet ∷ octets) ≤ length (octet ∷ octets)) [
  | inl is ↦ omega (arith, len-end octet octets is)
  | inr is ↦ omega (arith, len-plain octet octets is, len-within octets)
]

pub len-some : (body : List ℕ) → 0 < length body → begins_with_end body ≡ false → 0 < piece_len body
len-some [] some is = absurd (omega arith)
len-some (octet ∷ octets) some is = omega (arith, len-plain octet octets is)

pub len-here : (octets : List ℕ) → begins_with_end octets ≡ true → piece_len octets ≡ 0
len-here [] is = refl
len-here (octet ∷ octets) is = len-end octet octets is

pub len-further : (body : List ℕ) (i : ℕ) → i < length body → begins_with_end (drop i body) ≡ false → piece_len (drop i body) ≡ suc (piece_len (drop (i + 1) body))
len-further body i within is =
    let more : drop i body ≡ get_or body i 0 ∷ drop (i + 1) body = drop_more body i 0 within in
    ap piece_len more ∙ len-plain (get_or body i 0) (drop (i + 1) body) (ap begins_with_end (sym more) ∙ is)

-- where it stops the next piece begins
pub len-stops : (body : List ℕ) → piece_len (drop (piece_len body) body) ≡ 0
len-stops [] = refl
len-stops (octet ∷ octets) = elim (cases_Bool (begins_with_end (octet ∷ octets))) as (λ _. piece_len (drop (piece_len (octet ∷ octets)) (octet ∷ octets)) ≡ 0) [
  | inl is ↦ ap (λ n. piece_len (drop n (octet ∷ octets))) (len-end octet octets is) ∙ len-end octet octets is
  | inr is ↦ ap (λ n. piece_len (drop n (octet ∷ octets))) (len-plain octet octets is) ∙ len-stops octets
]

pub first-piece : (body : List ℕ) → first_of (pieces_of body) ≡ take (piece_len body) body
first-piece [] = refl
first-piece (octet ∷ octets) = elim (cases_Bool (begins_with_end (octet ∷ octets))) as (λ _. first_of (pieces_of (octet ∷ octets)) ≡ take (piece_len (octet ∷ octets)) (octet ∷ octets)) [
  | inl is ↦ ap first_of (pieces-end octet octets is) ∙ sym (ap (λ n. take n (octet ∷ octets)) (len-end octet octets is))
  | inr is ↦ ap first_of (pieces-plain octet octets is) ∙ ap (λ piece. octet ∷ piece) (first-piece octets)
      ∙ sym (ap (λ n. take n (octet ∷ octets)) (len-plain octet octets is))
]

pub other-pieces : (body : List ℕ) → others_of (pieces_of body) ≡ others_of (pieces_of (drop (piece_len body) body))
other-pieces [] = refl
other-pieces (octet ∷ octets) = elim (cases_Bool (begins_with_end (octet ∷ octets))) as (λ _. others_of (pieces_of (octet ∷ octets)) ≡ others_of (pieces_of (drop (piece_len (octet ∷ octets)) (octet ∷ octets)))) [
  | inl is ↦ sym (ap (λ n. others_of (pieces_of (drop n (octet ∷ octets)))) (len-end octet octets is))
  | inr is ↦ ap others_of (pieces-plain octet octets is) ∙ other-pieces octets
      ∙ sym (ap (λ n. others_of (pieces_of (drop n (octet ∷ octets)))) (len-plain octet octets is))
]

-- ---- pieces without a CR LF

-- a CR and the LF after it
end_is : (octet : ℕ) (octets : List ℕ) → begins_with_end (octet ∷ octets) ≡ true → (after : List ℕ) × (octet ∷ octets ≡ 13 ∷ 10 ∷ after)
end_is octet [] is = absurd (cc (right_of (octet == 13) false is))
end_is octet (next ∷ after) is =
    (after, ap₂ (λ x y. x ∷ y ∷ after) (eqb-true octet 13 (left_of _ _ is)) (eqb-true next 10 (right_of _ _ is)))

pub no_end_first : (octets : List ℕ) → HasNoLineEnd octets → begins_with_end octets ≡ false
no_end_first [] none = refl
no_end_first (octet ∷ octets) none = elim (cases_Bool (begins_with_end (octet ∷ octets))) as (λ _. begins_with_end (octet ∷ octets) ≡ false) [
  | inl is ↦ let e = end_is octet octets is in absurd (none [] e.0 e.1)
  | inr is ↦ is
]

pub no_end_in_rest : (octet : ℕ) (octets : List ℕ) → HasNoLineEnd (octet ∷ octets) → HasNoLineEnd octets
no_end_in_rest octet octets none before after is = none (octet ∷ before) after (ap (λ xs. octet ∷ xs) is)

pub no_end_dropped : (octets : List ℕ) → HasNoLineEnd octets → HasNoLineEnd (drop 1 octets)
no_end_dropped [] none = none
no_end_dropped (octet ∷ octets) none = no_end_in_rest octet octets none

pub no_end_in_none : HasNoLineEnd []
no_end_in_none [] after is = absurd (cc is)
no_end_in_none (octet ∷ before) after is = absurd (cc is)

lf_after : (first octets after : List ℕ) → begins_with_lf first ≡ begins_with_lf octets → first ≡ 10 ∷ after → begins_with_lf octets ≡ true
lf_after first octets after same is = sym same ∙ ap begins_with_lf is

pub no_end_before : (octet : ℕ) (octets : List ℕ) → begins_with_end (octet ∷ octets) ≡ false → HasNoLineEnd (first_of (pieces_of octets))
    → HasNoLineEnd (octet ∷ first_of (pieces_of octets))
no_end_before octet octets plain none [] after is =
    let cr : octet ≡ 13 = cc is in
    let rest : first_of (pieces_of octets) ≡ 10 ∷ after = cc is in
    let lf = lf_after (first_of (pieces_of octets)) octets after (lf-first octets) rest in
    let both : begins_with_end (octet ∷ octets) ≡ true = rw (cr, lf) refl in
    absurd (cc (sym both ∙ plain))
no_end_before octet octets plain none (b ∷ before) after is =
    let rest : first_of (pieces_of octets) ≡ before ++ 13 ∷ 10 ∷ after = cc is in
    none before after rest

-- how far octets without a CR LF go, alone and before one
pub len-whole : (octets : List ℕ) → HasNoLineEnd octets → piece_len octets ≡ length octets
len-whole [] none = refl
len-whole (octet ∷ octets) none =
    len-plain octet octets (no_end_first (octet ∷ octets) none) ∙ ap suc (len-whole octets (no_end_in_rest octet octets none))

before_cr : (octets rest : List ℕ) → begins_with_lf (octets ++ 13 ∷ rest) ≡ begins_with_lf octets
before_cr [] rest = refl
before_cr (octet ∷ octets) rest = refl

pub len-before : (octets rest : List ℕ) → HasNoLineEnd octets → piece_len (octets ++ 13 ∷ 10 ∷ rest) ≡ length octets
len-before [] rest none = refl
len-before (octet ∷ octets) rest none =
    let plain : begins_with_end (octet ∷ octets ++ 13 ∷ 10 ∷ rest) ≡ false =
    ap (λ lf. octet == 13 && lf) (before_cr octets (10 ∷ rest)) ∙ no_end_first (octet ∷ octets) none in
    len-plain octet (octets ++ 13 ∷ 10 ∷ rest) plain ∙ ap suc (len-before octets rest (no_end_in_rest octet octets none))

-- ---- joined again

joined-more : (octet : ℕ) (piece : List ℕ) (pieces : List (List ℕ)) → joined ((octet ∷ piece) ∷ pieces) ≡ octet ∷ joined (piece ∷ pieces)
joined-more octet piece [] = refl
joined-more octet piece (next ∷ pieces) = refl

joined-end : (octet : ℕ) (piece : List ℕ) (pieces : List (List ℕ)) → (octet == 13 && begins_with_lf piece) ≡ true
    → joined ([] ∷ drop 1 piece ∷ pieces) ≡ octet ∷ joined (piece ∷ pieces)
joined-end octet [] pieces is = absurd (cc (right_of (octet == 13) false is))
joined-end octet (next ∷ piece) pieces is =
    ap₂ (λ x y. x ∷ y ∷ joined (piece ∷ pieces)) (sym (eqb-true octet 13 (left_of _ _ is))) (sym (eqb-true next 10 (right_of _ _ is)))
    ∙ ap (λ octets. octet ∷ octets) (sym (joined-more next piece pieces))

joined-put : (octet : ℕ) (pieces : List (List ℕ)) → joined (put octet pieces) ≡ octet ∷ joined pieces
joined-put octet [] = refl
joined-put octet (piece ∷ pieces) = elim (cases_Bool (octet == 13 && begins_with_lf piece)) as (λ _. joined (put octet (piece ∷ pieces)) ≡ octet ∷ joined (piece ∷ pieces)) [
  | inl is ↦ ap joined (put-end octet (piece ∷ pieces) is) ∙ joined-end octet piece pieces is
  | inr is ↦ ap joined (put-plain octet (piece ∷ pieces) is) ∙ joined-more octet piece pieces
]

pub joined-pieces : (body : List ℕ) → joined (pieces_of body) ≡ body
joined-pieces [] = refl
joined-pieces (octet ∷ octets) = joined-put octet (pieces_of octets) ∙ ap (λ rest. octet ∷ rest) (joined-pieces octets)

-- ---- the test on two octets

short : (octets : List ℕ) → length octets < 2 → begins_with_end octets ≡ false
short [] few = refl
short (octet ∷ []) few = and-false (octet == 13)
short (octet ∷ next ∷ octets) few = absurd (omega arith)

pub short-at : (body : List ℕ) (at : ℕ) → length body - at < 2 → begins_with_end (drop at body) ≡ false
short-at body at few = short (drop at body) (omega (arith, length-drop at body))

pub two-at : (body : List ℕ) (at : ℕ) → at + 1 < length body → begins_with_end (drop at body) ≡ (get_or body at 0 == 13 && get_or body (at + 1) 0 == 10)
two-at body at within =
    ap begins_with_end (drop_more body at 0 (omega arith))
    ∙ ap (λ rest. get_or body at 0 == 13 && begins_with_lf rest) (drop_more body (at + 1) 0 within)
