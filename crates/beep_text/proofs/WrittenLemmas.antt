use Rattle.std.proofs.Common.{◌≡◌, ℕ, suc, ◌+◌, ◌<◌, ◌≤◌, Bool, true, false, ◌&&◌, not, ◌==◌, nat_lt, cond, List, [], ◌∷◌, ◌++◌, length, fold, map, refl, sym, ap, ap₂, subst, ◌∙◌, append_assoc, append-nil, arith, eqb-true}
use Rattle.std.specs.List.{list_all}
use Rattle.std.specs.Prelude.{bytes_eq}
use Rattle.beep_text.specs.declared.attr.Attr.{Attr}
use Rattle.beep_text.specs.declared.limits.TheConstants.{MAX_NESTED}
use Rattle.beep_chars.specs.Characters.{is_name, is_allowed, is_space}
use Rattle.beep_text.specs.Tree.{Items, Tree, nothing, with_chars, with_child}
use Rattle.beep_text.specs.Lawful.{are_attrs, are_items, has_name, ends_in_chars, depth_of, IsElement}
use Rattle.beep_text.specs.Elements.{Written, Pieces, no_pieces, character, written_char, is_written, attr_said, AreAttrTexts, IsTag, IsPieces, IsBody, is_one, put, items_of}
use Rattle.beep_text.specs.Canonical.{written_as, attr_as, tag_as, chars_as, child_as, pieces_as, element_text, is_nothing}
use Rattle.beep_text.proofs.ElementLemmas.{left_of, right_of, both, is_false, has_name-push, both_false, bytes_eq-comm, left_false, right_false}

-- what holds on both ways of a test
pub by_test : {A : Type 0} (P : A → Type 0) (b : Bool) {x y : A} → (b ≡ true → P x) → (b ≡ false → P y) → P (cond b x y)
by_test P true first second = first refl
by_test P false first second = second refl

-- ---- a character

said-same : (in_value : Bool) (c : ℕ) → written_char (written_as in_value c) ≡ c
said-same in_value c =
    let P : Written → Type 0 = λ w. written_char w ≡ c in
    by_test P (c == 38) (λ is. sym (eqb-true c 38 is)) (λ _.
    by_test P (c == 60) (λ is. sym (eqb-true c 60 is)) (λ _.
    by_test P (c == 62) (λ is. sym (eqb-true c 62 is)) (λ _.
    by_test P (c == 13) (λ is. sym (eqb-true c 13 is)) (λ _.
    by_test P (in_value && c == 39) (λ is. sym (eqb-true c 39 (right_of in_value _ is))) (λ _.
    by_test P (in_value && c == 9) (λ is. sym (eqb-true c 9 (right_of in_value _ is))) (λ _.
    by_test P (in_value && c == 10) (λ is. sym (eqb-true c 10 (right_of in_value _ is))) (λ _. refl)))))))

is_written-value : (c : ℕ) → is_allowed c ≡ true → is_written 39 (written_as true c) ≡ true
is_written-value c allowed =
    let P : Written → Type 0 = λ w. is_written 39 w ≡ true in
    by_test P (c == 38) (λ is. refl) (λ a.
    by_test P (c == 60) (λ is. refl) (λ b.
    by_test P (c == 62) (λ is. refl) (λ _.
    by_test P (c == 13) (λ is. refl) (λ _.
    by_test P (c == 39) (λ is. refl) (λ d.
    by_test P (c == 9) (λ is. refl) (λ _.
    by_test P (c == 10) (λ is. refl) (λ _. rw (allowed, a, b, d) refl)))))))

is_written-chars : (c : ℕ) → is_allowed c ≡ true → is_written 60 (written_as false c) ≡ true
is_written-chars c allowed =
    let P : Written → Type 0 = λ w. is_written 60 w ≡ true in
    by_test P (c == 38) (λ is. refl) (λ a.
    by_test P (c == 60) (λ is. refl) (λ b.
    by_test P (c == 62) (λ is. refl) (λ _.
    by_test P (c == 13) (λ is. refl) (λ _. rw (allowed, a, b) refl))))

-- ---- a value and its attributes

value-said : (cs : List ℕ) → map written_char (map (written_as true) cs) ≡ cs
value-said [] = refl
value-said (c ∷ cs) = ap₂ (λ x xs. x ∷ xs) (said-same true c) (value-said cs)

value-written : (cs : List ℕ) → list_all is_allowed cs ≡ true → list_all (is_written 39) (map (written_as true) cs) ≡ true
value-written [] are = refl
value-written (c ∷ cs) are = both _ _ (is_written-value c (left_of (is_allowed c) _ are)) (value-written cs (right_of (is_allowed c) _ are))

attr-said : (a : Attr) → attr_said (attr_as a) ≡ a
attr-said a = ap (λ value. record { name = a.name; value = value }) (value-said a.value)

attrs-said : (attrs : List Attr) → map attr_said (map attr_as attrs) ≡ attrs
attrs-said [] = refl
attrs-said (a ∷ attrs) = ap₂ (λ x xs. x ∷ xs) (attr-said a) (attrs-said attrs)

-- none of the attributes has a name of those before
abbrev Apart : List Attr → List Attr → Type 0
Apart before [] = Unit {0}
Apart before (a ∷ attrs) = (has_name a.name before ≡ false) × Apart before attrs

apart_none : (attrs : List Attr) → Apart [] attrs
apart_none [] = tt
apart_none (a ∷ attrs) = (refl, apart_none attrs)

apart_more : (before attrs : List Attr) (a : Attr) → Apart before attrs → has_name a.name attrs ≡ false → Apart (before ++ a ∷ []) attrs
apart_more before [] a apart new = tt
apart_more before (b ∷ attrs) a apart new =
    (has_name-push b.name before a ∙ both_false _ _ apart.0 (bytes_eq-comm a.name b.name ∙ left_false _ _ new), apart_more before attrs a apart.1 (right_false (bytes_eq b.name a.name) _ new))

attrs-written : (before attrs : List Attr) → are_attrs attrs ≡ true → Apart before attrs → AreAttrTexts before (map attr_as attrs)
attrs-written before [] are apart = tt
attrs-written before (a ∷ attrs) are apart =
    let three = left_of _ (are_attrs attrs) are in
    let two = left_of (is_name a.name && list_all is_allowed a.value) _ three in
    let next = attrs-written (before ++ a ∷ []) attrs (right_of (is_name a.name && list_all is_allowed a.value && not (has_name a.name attrs)) _ are)
    (apart_more before attrs a apart.1 (is_false _ (right_of (is_name a.name && list_all is_allowed a.value) _ three))) in (
      record { gap = refl; name = left_of (is_name a.name) _ two; before = refl; after = refl; quote = refl; value = value-written a.value (right_of (is_name a.name) _ two) },
      apart.0,
      subst (λ (x : Attr). AreAttrTexts (before ++ x ∷ []) (map attr_as attrs)) (sym (attr-said a)) next,
    )

tag-written : (name : List ℕ) (attrs : List Attr) (gap : List ℕ) → is_name name ≡ true → are_attrs attrs ≡ true → list_all is_space gap ≡ true → IsTag (tag_as name attrs gap)
tag-written name attrs gap is are spaces = record { name = is; attrs = attrs-written [] attrs are (apart_none attrs); gap = spaces }

-- ---- what an element holds

run-more : (items : Items) (front cs : List ℕ) → fold put (with_chars items front) cs ≡ with_chars items (front ++ cs)
run-more items front [] = ap (with_chars items) (sym (append-nil front))
run-more items front (c ∷ cs) = run-more items (front ++ c ∷ []) cs ∙ ap (with_chars items) (append_assoc front (c ∷ []) cs)

run-first : (items : Items) (c : ℕ) → ends_in_chars items ≡ false → put items c ≡ with_chars items (c ∷ [])
run-first nothing c is = refl
run-first (with_chars items cs) c is = absurd (cc is)
run-first (with_child items name attrs inside) c is = refl

run-said : (items : Items) (cs : List ℕ) → ends_in_chars items ≡ false → nat_lt 0 (length cs) ≡ true → fold put items cs ≡ with_chars items cs
run-said items [] is some = absurd (cc some)
run-said items (c ∷ cs) is some = ap (λ x. fold put x cs) (run-first items c is) ∙ run-more items (c ∷ []) cs

chars-said : (ps : Pieces) (cs : List ℕ) → items_of (chars_as ps cs) ≡ fold put (items_of ps) cs
chars-said ps [] = refl
chars-said ps (c ∷ cs) = chars-said (character ps (written_as false c)) cs ∙ ap (λ x. fold put (put (items_of ps) x) cs) (said-same false c)

is_nothing-is : (items : Items) → is_nothing items ≡ true → items ≡ nothing
is_nothing-is nothing is = refl
is_nothing-is (with_chars items cs) is = absurd (cc is)
is_nothing-is (with_child items name attrs inside) is = absurd (cc is)

child-said : (ps : Pieces) (name : List ℕ) (attrs : List Attr) (inside : Items) (inner : Pieces) → items_of inner ≡ inside
    → items_of (child_as ps name attrs inside inner) ≡ with_child (items_of ps) name attrs inside
child-said ps name attrs inside inner said =
    by_test (λ (x : Pieces). items_of x ≡ with_child (items_of ps) name attrs inside) (is_nothing inside)
    (λ is. ap₂ (with_child (items_of ps) name) (attrs-said attrs) (sym (is_nothing-is inside is)))
    (λ _. ap₂ (with_child (items_of ps) name) (attrs-said attrs) said)

-- the pieces that are written say the parts
pub pieces-said : (items : Items) → are_items items ≡ true → items_of (pieces_as items) ≡ items
pieces-said nothing are = refl
pieces-said (with_chars items cs) are =
    let three = left_of _ (list_all is_allowed cs) are in
    let two = left_of _ (nat_lt 0 (length cs)) three in
    chars-said (pieces_as items) cs ∙ ap (λ x. fold put x cs) (pieces-said items (left_of (are_items items) _ two))
    ∙ run-said items cs (is_false _ (right_of (are_items items) _ two)) (right_of (are_items items && not (ends_in_chars items)) _ three)
pieces-said (with_child items name attrs inside) are =
    let three = left_of _ (are_items inside) are in
    child-said (pieces_as items) name attrs inside (pieces_as inside) (pieces-said inside (right_of (are_items items && is_name name && are_attrs attrs) _ are))
    ∙ ap (λ x. with_child x name attrs inside) (pieces-said items (left_of (are_items items) _ (left_of _ (are_attrs attrs) three)))

chars-lawful : (depth : ℕ) (ps : Pieces) (cs : List ℕ) → IsPieces depth ps → list_all is_allowed cs ≡ true → IsPieces depth (chars_as ps cs)
chars-lawful depth ps [] is are = is
chars-lawful depth ps (c ∷ cs) is are =
    chars-lawful depth (character ps (written_as false c)) cs (is, is_written-chars c (left_of (is_allowed c) _ are)) (right_of (is_allowed c) _ are)

child-lawful : (depth : ℕ) (ps : Pieces) (name : List ℕ) (attrs : List Attr) (inside : Items) (inner : Pieces) → IsPieces depth ps → is_name name ≡ true → are_attrs attrs ≡ true
    → depth < MAX_NESTED → IsPieces (suc depth) inner → IsPieces depth (child_as ps name attrs inside inner)
child-lawful depth ps name attrs inside inner is called are deep within =
    by_test (IsPieces depth) (is_nothing inside)
    (λ _. (is, tag-written name attrs (32 ∷ []) called are refl, deep))
    (λ _. (is, tag-written name attrs [] called are refl, deep, within, refl))

-- the pieces that are written are lawful
pub pieces-lawful : (depth : ℕ) (items : Items) → are_items items ≡ true → depth_of items + depth ≤ MAX_NESTED → IsPieces depth (pieces_as items)
pieces-lawful depth nothing are deep = tt
pieces-lawful depth (with_chars items cs) are deep =
    let three = left_of _ (list_all is_allowed cs) are in
    chars-lawful depth (pieces_as items) cs (pieces-lawful depth items (left_of (are_items items) _ (left_of _ (nat_lt 0 (length cs)) three)) deep)
    (right_of (are_items items && not (ends_in_chars items) && nat_lt 0 (length cs)) _ are)
pieces-lawful depth (with_child items name attrs inside) are deep =
    let three = left_of _ (are_items inside) are in
    let two = left_of _ (are_attrs attrs) three in
    child-lawful depth (pieces_as items) name attrs inside (pieces_as inside) (pieces-lawful depth items (left_of (are_items items) _ two) (omega arith))
    (right_of (are_items items) _ two) (right_of (are_items items && is_name name) _ three) (omega arith)
    (pieces-lawful (suc depth) inside (right_of (are_items items && is_name name && are_attrs attrs) _ are) (omega arith))

-- ---- a body

one-child : (name : List ℕ) (attrs : List Attr) (inside : Items) (inner : Pieces) → is_one (child_as no_pieces name attrs inside inner) ≡ true
one-child name attrs inside inner = by_test (λ (x : Pieces). is_one x ≡ true) (is_nothing inside) (λ _. refl) (λ _. refl)

-- the canonical text of an element says it
pub canonical-body : (e : Tree) → IsElement e → IsBody (element_text e) e
canonical-body e is = record {
  before = [];
  root = child_as no_pieces e.name e.attrs e.items (pieces_as e.items);
  after = [];
  text = sym (append-nil (element_text e));
  spaces_before = refl;
  spaces_after = refl;
  one = one-child e.name e.attrs e.items (pieces_as e.items);
  pieces = (let deep = is.nested in child-lawful 0 no_pieces e.name e.attrs e.items (pieces_as e.items) tt is.named is.attrs (omega arith) (pieces-lawful 1 e.items is.items (omega arith)));
  value = child-said no_pieces e.name e.attrs e.items (pieces_as e.items) (pieces-said e.items is.items);
}
