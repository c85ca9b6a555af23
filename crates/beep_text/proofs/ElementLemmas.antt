use Rattle.std.proofs.Common.{◌≡◌, ℕ, Bool, true, false, ◌&&◌, ◌||◌, not, cond, List, [], ◌∷◌, ◌++◌, length, fold, Result, Ok, Err, OnOk, OnErr, IsTrue, Decides, refl, sym, ap, subst, ◌∙◌, append_assoc, append-nil, arith, lt-ltb}
use Rattle.std.specs.List.{list_all, slice_get}
use Rattle.std.specs.Slice.{IsItemAt}
use Rattle.std.proofs.Common.{Option, Some, None, Bor, option_copied}
use Rattle.std.proofs.lemmas.Option.{slice_get_past, slice_get_read}
use Rattle.std.specs.Prelude.{bytes_eq}
use Rattle.std.proofs.lemmas.Slice.Eq.{bytes_eq-Decides}
use Rattle.std.proofs.lemmas.Bool.Decides.{same_from_decides}
use Rattle.beep_text.specs.declared.attr.Attr.{Attr}
use Rattle.beep_text.specs.declared.element.Item.{Item}
use Rattle.beep_chars.specs.Characters.{is_name, is_allowed}
use Rattle.beep_text.specs.Tree.{Items, Tree, nothing, with_chars, with_child}
use Rattle.beep_text.specs.Listed.{with_item, items_listed, listed}
use Rattle.beep_text.specs.Lawful.{are_attrs, has_name, IsElement, IsNext, IsItem}

-- what holds of both outcomes holds of the one
pub either_way : {T E A : Type 0} (P : A → Type 0) (r : Result T E) (new grown old : A) → OnOk r (new ≡ grown) → OnErr r (new ≡ old) → P grown → P old → P new
either_way P (Ok x) new grown old ok err more same = subst P (sym ok) more
either_way P (Err x) new grown old ok err more same = subst P (sym err) same

pub either_if : {A : Type 0} (P : A → Type 0) (b : Bool) (new grown old : A) → new ≡ cond b grown old → P grown → P old → P new
either_if P true new grown old is more same = subst P (sym is) more
either_if P false new grown old is more same = subst P (sym is) same

-- two tests that hold
pub both : (a b : Bool) → a ≡ true → b ≡ true → (a && b) ≡ true
both true b _ is = is
both false b is _ = is

pub left_of : (a b : Bool) → (a && b) ≡ true → a ≡ true
left_of true b _ = refl
left_of false b is = is

pub right_of : (a b : Bool) → (a && b) ≡ true → b ≡ true
right_of true b is = is
right_of false b is = absurd (cc is)

pub or-false : (a : Bool) → (a || false) ≡ a
or-false true = refl
or-false false = refl

-- a list of parts as one value, and back
pub listed-fold : (items : Items) (xs : List Item) → listed (fold with_item items xs) ≡ listed items ++ xs
listed-fold items [] = sym (append-nil (listed items))
listed-fold items (Item.Chars cs ∷ xs) = listed-fold (with_chars items cs) xs ∙ append_assoc (listed items) (Item.Chars cs ∷ []) xs
listed-fold items (Item.Child e ∷ xs) =
    listed-fold (with_child items e.name e.attrs e.items) xs ∙ append_assoc (listed items) (Item.Child e ∷ []) xs

pub listed-items_listed : (xs : List Item) → listed (items_listed xs) ≡ xs
listed-items_listed xs = listed-fold nothing xs

pub both_false : (a b : Bool) → a ≡ false → b ≡ false → (a || b) ≡ false
both_false true b is _ = absurd (cc is)
both_false false b _ is = is

pub left_false : (a b : Bool) → (a || b) ≡ false → a ≡ false
left_false true b is = is
left_false false b _ = refl

pub right_false : (a b : Bool) → (a || b) ≡ false → b ≡ false
right_false true b is = absurd (cc is)
right_false false b is = is

pub is_false : (a : Bool) → not a ≡ true → a ≡ false
is_false true is = absurd (cc is)
is_false false is = refl

pub not-false : (a : Bool) → a ≡ false → not a ≡ true
not-false a is = rw is refl

pub or-assoc : (a b c : Bool) → ((a || b) || c) ≡ (a || (b || c))
or-assoc true b c = refl
or-assoc false b c = refl

pub bytes_eq-comm : (a b : List ℕ) → bytes_eq a b ≡ bytes_eq b a
bytes_eq-comm a b =
    let swapped : Decides (bytes_eq b a) (a ≡ b) = (λ e. sym ((bytes_eq-Decides b a).0 e), λ e. (bytes_eq-Decides b a).1 (sym e)) in
    same_from_decides _ _ (bytes_eq-Decides a b) swapped

-- a new name at the end keeps the names apart
pub has_name-push : (name : List ℕ) (attrs : List Attr) (a : Attr) → has_name name (attrs ++ a ∷ []) ≡ (has_name name attrs || bytes_eq a.name name)
has_name-push name [] a = or-false (bytes_eq a.name name)
has_name-push name (b ∷ attrs) a =
    ap (λ x. bytes_eq b.name name || x) (has_name-push name attrs a) ∙ sym (or-assoc (bytes_eq b.name name) (has_name name attrs) (bytes_eq a.name name))

pub are_attrs-push : (attrs : List Attr) (a : Attr) → IsTrue (are_attrs attrs) → IsTrue (is_name a.name) → IsTrue (list_all is_allowed a.value) → has_name a.name attrs ≡ false
    → IsTrue (are_attrs (attrs ++ a ∷ []))
are_attrs-push [] a are named allowed new = both _ true (both _ true (both _ _ named allowed) refl) refl
are_attrs-push (b ∷ attrs) a are named allowed new =
    let three = left_of _ (are_attrs attrs) are in
    let apart : has_name b.name (attrs ++ a ∷ []) ≡ false = has_name-push b.name attrs a
    ∙ both_false _ _ (is_false _ (right_of (is_name b.name && list_all is_allowed b.value) _ three)) (bytes_eq-comm a.name b.name ∙ left_false _ _ new) in
    both _ _ (both _ _ (left_of _ (not (has_name b.name attrs)) three) (not-false _ apart))
    (are_attrs-push attrs a (right_of (is_name b.name && list_all is_allowed b.value && not (has_name b.name attrs)) _ are) named allowed (right_false (bytes_eq b.name a.name) _ new))

-- one more part keeps an element lawful
pub IsElement-next : (e : Tree) (item : Item) → IsElement e → IsNext e.items item → IsItem item
    → IsElement (record { name = e.name; attrs = e.attrs; items = with_item e.items item })
IsElement-next e (Item.Chars cs) is next part = record {
  named = is.named;
  attrs = is.attrs;
  nested = is.nested;
  items = both _ _ (both _ _ (both _ _ is.items (not-false _ next.0)) (lt-ltb 0 (length cs) next.1)) next.2;
}
IsElement-next e (Item.Child child) is next part = record {
  named = is.named;
  attrs = is.attrs;
  nested = (let one = is.nested in let two = next in omega arith);
  items = both _ _ (both _ _ (both _ _ is.items part.named) part.attrs) part.items;
}

-- what the call of a list's part gives
pub looked_up : {X : Type 0} (xs : List X) (i : ℕ) (r : Option (Bor X)) → IsItemAt xs i r → option_copied r ≡ slice_get xs i
looked_up xs i None at = sym (slice_get_past xs i at.3)
looked_up xs i (Some x) at = sym (slice_get_read xs (length xs) i x.now refl at.3.0 at.1)
