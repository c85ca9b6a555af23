-- What one read gives of what is left.
use Rattle.std.proofs.Common.{◌≡◌, ℕ, zero, suc, ◌+◌, ◌-◌, ◌<◌, ◌≤◌, min, nat_le, Bool, true, false, ◌&&◌, List, [], ◌∷◌, ◌++◌, length, map, take, drop, get_or, inl, inr, refl, sym, ap, ap₂, ◌∙◌, arith, length-take, length-drop, drop-drop}
use Rattle.std.proofs.lemmas.List.{take_all, take_rest, drop_more}
use Rattle.std.proofs.lemmas.Bool.{cases_lt, cases_Bool, le-leb, leb-true}
use Rattle.std.specs.List.{list_all}
use Rattle.beep_wires.specs.declared.links.Got.{Got}
use Rattle.beep_memory.specs.declared.gives.Give.{Give}
use Rattle.beep_memory.specs.Gifts.{gift_of, Gift, piece, silence, is_some, got_from, octets_from, left_after, left_from, gift_need, gifts_need}

left-from-start : (gifts : List Gift) → left_from 0 gifts ≡ gifts
left-from-start [] = refl
left-from-start (piece octets ∷ gifts) = refl
left-from-start (silence ∷ gifts) = refl

pub left-next : (gifts : List Gift) (at : ℕ) → left_from 0 (drop at gifts) ≡ drop at gifts
left-next gifts at = left-from-start (drop at gifts)

pub left-start : (gifts : List Gift) → left_from 0 (drop 0 gifts) ≡ gifts
left-start gifts = left-from-start gifts

all_rest : (gift : Gift) (gifts : List Gift) → list_all is_some (gift ∷ gifts) ≡ true → list_all is_some gifts ≡ true
all_rest gift gifts all = of (is_some gift) all
  where
    of : (b : Bool) → (b && list_all is_some gifts) ≡ true → list_all is_some gifts ≡ true
    of true is = is
    of false is = absurd (cc is)

some_octets : (octets : List ℕ) (gifts : List Gift) → list_all is_some (piece octets ∷ gifts) ≡ true → 0 < length octets
some_octets [] gifts all = absurd (cc all)
some_octets (octet ∷ octets) gifts all = omega arith

-- the place after a gift
pub all_next : (gifts rest : List Gift) (gift : Gift) (taken at : ℕ) → drop at gifts ≡ gift ∷ rest → list_all is_some (left_from taken (drop at gifts)) ≡ true → list_all is_some rest ≡ true
all_next gifts rest (piece octets) taken at is all = all_rest (piece (drop taken octets)) rest (sym (ap (λ g. list_all is_some (left_from taken g)) is) ∙ all)
all_next gifts rest silence taken at is all = all_rest silence rest (sym (ap (λ g. list_all is_some (left_from taken g)) is) ∙ all)

pub taken-within : (gifts rest : List Gift) (octets : List ℕ) (taken at : ℕ) → drop at gifts ≡ piece octets ∷ rest → list_all is_some (left_from taken (drop at gifts)) ≡ true → taken < length octets
taken-within gifts rest octets taken at is all =
    omega (arith, length-drop taken octets, some_octets (drop taken octets) rest (sym (ap (λ g. list_all is_some (left_from taken g)) is) ∙ all))

pub all_further : (gifts rest : List Gift) (octets : List ℕ) (taken at n : ℕ) → drop at gifts ≡ piece octets ∷ rest → list_all is_some (left_from taken (drop at gifts)) ≡ true
    → taken + n < length octets → list_all is_some (left_from (taken + n) (drop at gifts)) ≡ true
all_further gifts rest octets taken at n is all within =
    let first : is_some (piece (drop (taken + n) octets)) ≡ true = some-piece (drop (taken + n) octets) (omega (arith, length-drop (taken + n) octets)) in
    ap (λ g. list_all is_some (left_from (taken + n) g)) is ∙ (rw first (all_next gifts rest (piece octets) taken at is all))
  where
    some-piece : (os : List ℕ) → 0 < length os → is_some (piece os) ≡ true
    some-piece [] some = absurd (omega arith)
    some-piece (o ∷ os) some = refl

-- ---- one read of a piece

not_le : (a b : ℕ) → b < a → nat_le a b ≡ false
not_le a b less = elim (cases_Bool (nat_le a b)) as (λ _. nat_le a b ≡ false) [
  | inl is ↦ absurd (omega (arith, leb-true a b is))
  | inr is ↦ is
]

take-least : (octets : List ℕ) (room n : ℕ) → n ≡ min (length octets) room → take n octets ≡ take room octets
take-least octets room n is = elim (cases_lt room (length octets)) as (λ _. take n octets ≡ take room octets) [
  | inl less ↦ ap (λ k. take k octets) (let e : n ≡ room = omega arith in e)
  | inr more ↦ take_all n octets (omega arith) ∙ sym (take_all room octets more)
]

length-least : (octets : List ℕ) (room n : ℕ) → n ≡ min (length octets) room → length (take room octets) ≡ n
length-least octets room n is = omega (arith, length-take room octets)

module _ (gifts rest : List Gift) (octets left buf filled : List ℕ) (taken at n : ℕ) (is : drop at gifts ≡ piece octets ∷ rest)
    (left_is : left ≡ take (length octets - taken) (drop taken octets)) (count : n ≡ min (length left) (length buf)) where
  whole : left ≡ drop taken octets
  whole = left_is ∙ take_rest octets taken

  pub piece-got : Got.Bytes n ≡ got_from (left_from taken (drop at gifts)) (length buf)
  piece-got = ap (λ k. Got.Bytes k) (count ∙ ap (λ os. min (length os) (length buf)) whole) ∙ sym (ap (λ g. got_from (left_from taken g) (length buf)) is)

  given : take (length buf) (drop taken octets) ≡ take n left
  given = ap (take (length buf)) (sym whole) ∙ sym (take-least left (length buf) n count)

  pub piece-filled : filled ≡ take n left ++ drop n buf
      → filled ≡ octets_from (left_from taken (drop at gifts)) (length buf) ++ drop (length (octets_from (left_from taken (drop at gifts)) (length buf))) buf
  piece-filled copied =
      let size : length (take (length buf) left) ≡ n = length-least left (length buf) n count in
      copied
      ∙ ap₂ (λ os k. os ++ drop k buf) (take-least left (length buf) n count) (sym size)
      ∙ ap (λ os. take (length buf) os ++ drop (length (take (length buf) os)) buf) whole
      ∙ sym (ap (λ g. octets_from (left_from taken g) (length buf) ++ drop (length (octets_from (left_from taken g) (length buf))) buf) is)

  pub piece-within : 0 < length buf → taken < length octets → (0 < n) × (n ≤ length buf)
  piece-within some within =
      let rest-len : length left ≡ length octets - taken = ap length whole ∙ length-drop taken octets in
      (omega (arith, rest-len), omega arith)

  pub piece-further : (n ≡ length left → ⊥) → taken + n < length octets
  piece-further some = omega (arith, ap length whole, length-drop taken octets)

  pub piece-gone : n ≡ length left → rest ≡ left_after (left_from taken (drop at gifts)) (length buf)
  piece-gone all =
      let fits : nat_le (length (drop taken octets)) (length buf) ≡ true = le-leb _ _ (omega (arith, ap length whole)) in
      sym (ap (λ g. left_after (left_from taken g) (length buf)) is ∙ (rw fits refl))

  pub piece-left : (n ≡ length left → ⊥) → left_from (taken + n) (drop at gifts) ≡ left_after (left_from taken (drop at gifts)) (length buf)
  piece-left some =
      let more : nat_le (length (drop taken octets)) (length buf) ≡ false = not_le (length (drop taken octets)) (length buf) (omega (arith, ap length whole)) in
      let size : n ≡ length buf = omega arith in
      ap (left_from (taken + n)) is
      ∙ ap (λ os. piece os ∷ rest) (sym (drop-drop n taken octets) ∙ ap (λ k. drop k (drop taken octets)) size)
      ∙ sym (ap (λ g. left_after (left_from taken g) (length buf)) is ∙ (rw more refl))

-- ---- the reads that are needed

pub need-more : (gift : Gift) (gifts : List Gift) (total : ℕ) → total + gifts_need (gift ∷ gifts) ≡ (total + gift_need gift) + gifts_need gifts
need-more gift gifts total = omega arith

module _ (gifts rest : List Gift) (buf : List ℕ) (taken at : ℕ) (is : drop at gifts ≡ silence ∷ rest) where
  pub quiet-got : Got.Quiet ≡ got_from (left_from taken (drop at gifts)) (length buf)
  quiet-got = sym (ap (λ g. got_from (left_from taken g) (length buf)) is)

  pub quiet-filled : buf ≡ octets_from (left_from taken (drop at gifts)) (length buf) ++ drop (length (octets_from (left_from taken (drop at gifts)) (length buf))) buf
  quiet-filled = sym (ap (λ g. octets_from (left_from taken g) (length buf) ++ drop (length (octets_from (left_from taken g) (length buf))) buf) is)

  pub quiet-after : rest ≡ left_after (left_from taken (drop at gifts)) (length buf)
  quiet-after = sym (ap (λ g. left_after (left_from taken g) (length buf)) is)

module _ (gifts : List Gift) (buf : List ℕ) (taken at : ℕ) (is : drop at gifts ≡ []) where
  pub end-got : Got.End ≡ got_from (left_from taken (drop at gifts)) (length buf)
  end-got = sym (ap (λ g. got_from (left_from taken g) (length buf)) is)

  pub end-filled : buf ≡ octets_from (left_from taken (drop at gifts)) (length buf) ++ drop (length (octets_from (left_from taken (drop at gifts)) (length buf))) buf
  end-filled = sym (ap (λ g. octets_from (left_from taken g) (length buf) ++ drop (length (octets_from (left_from taken g) (length buf))) buf) is)

  pub end-after : left_from taken (drop at gifts) ≡ left_after (left_from taken (drop at gifts)) (length buf)
  end-after = ap (left_from taken) is ∙ sym (ap (λ g. left_after (left_from taken g) (length buf)) is)

pub gives-need : (gives : List Give) (i : ℕ) (give : Give) → i < length gives → give ≡ get_or gives i give
    → gifts_need (map gift_of (drop i gives)) ≡ gift_need (gift_of give) + gifts_need (map gift_of (drop (i + 1) gives))
gives-need gives i give within is =
    ap (λ gs. gifts_need (map gift_of gs)) (drop_more gives i give within)
    ∙ ap (λ g. gift_need (gift_of g) + gifts_need (map gift_of (drop (i + 1) gives))) (sym is)

pub gives-some : (gives : List Give) (i : ℕ) (give : Give) (b : Bool) → i < length gives → give ≡ get_or gives i give → is_some (gift_of give) ≡ b
    → list_all is_some (map gift_of (drop i gives)) ≡ (b && list_all is_some (map gift_of (drop (i + 1) gives)))
gives-some gives i give b within is some =
    ap (λ gs. list_all is_some (map gift_of gs)) (drop_more gives i give within)
    ∙ ap (λ g. is_some (gift_of g) && list_all is_some (map gift_of (drop (i + 1) gives))) (sym is)
    ∙ ap (λ t. t && list_all is_some (map gift_of (drop (i + 1) gives))) some
