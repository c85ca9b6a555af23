-- What follows for whole texts.
use Rattle.std.proofs.Common.{◌≡◌, ℕ, suc, ◌+◌, ◌<◌, ◌≤◌, true, false, ◌&&◌, not, nat_lt, List, [], ◌∷◌, ◌++◌, length, map, take, drop, fold, Option, Some, None, refl, sym, ap, subst, ◌∙◌, append_assoc, append-nil, arith, length-append, lt-ltb, ltb-true, ltb-false, ◌==◌}
use Rattle.std.specs.List.{list_all}
use Rattle.std.proofs.lemmas.List.Folds.{list_all-append}
use Rattle.std.proofs.lemmas.List.{take-append-drop, take-take, take_all}
use Rattle.beep_text.specs.declared.attr.Attr.{Attr}
use Rattle.beep_text.specs.declared.limits.TheConstants.{MAX_NESTED}
use Rattle.beep_chars.specs.Characters.{is_allowed, is_name}
use Rattle.beep_text.specs.Tree.{Items, Tree, nothing, with_chars, with_child}
use Rattle.beep_text.specs.Lawful.{are_attrs, are_items, ends_in_chars, depth_of, IsElement}
use Rattle.beep_text.specs.Elements.{Written, plain, named, decimal, hexadecimal, written_char, is_written, AttrText, attr_said, AreAttrTexts, Pieces, no_pieces, character, section, alone, around, items_of, put, IsPieces, IsBody, IsAlive, Stops}
use Rattle.beep_text.specs.Canonical.{element_text}
use Rattle.beep_text.specs.Machine.{State}
use Rattle.beep_text.proofs.ElementLemmas.{left_of, right_of, both, are_attrs-push}
use Rattle.beep_text.proofs.WrittenLemmas.{canonical-body}
use Rattle.beep_text.proofs.ReadingLemmas.{named_cases}
use Rattle.beep_text.proofs.RunLemmas.{tree, body-run}

-- ---- one value

abbrev child_in : Items → Tree
child_in nothing = tree [] [] nothing
child_in (with_chars items cs) = tree [] [] nothing
child_in (with_child items name attrs inside) = tree name attrs inside

child_parts : (e f : Tree) → with_child nothing e.name e.attrs e.items ≡ with_child nothing f.name f.attrs f.items → e ≡ f
child_parts e f same = ap child_in same

top_of : Option State → Items
top_of None = nothing
top_of (Some s) = s.top.items

pub one_value : (body : List ℕ) (e f : Tree) → IsBody body e → IsBody body f → e ≡ f
unfolding top_of
one_value body e f first second =
    let a = body-run body e first in
    let b = body-run body f second in
    child_parts e f (ap top_of (sym a.2 ∙ b.2))

-- ---- one place

pub prefix_alive : (xs ys : List ℕ) → IsAlive (xs ++ ys) → IsAlive xs
prefix_alive xs ys alive = (ys ++ alive.0, alive.1, subst (λ (x : List ℕ). IsBody x alive.1) (append_assoc xs ys alive.0) alive.2)

pub take_alive : (body : List ℕ) (m n : ℕ) → m ≤ n → IsAlive (take n body) → IsAlive (take m body)
take_alive body m n less alive =
    subst IsAlive (take-take m n body less) (prefix_alive (take m (take n body)) (drop m (take n body)) (subst IsAlive (sym (take-append-drop m (take n body))) alive))

not_before : (body : List ℕ) (p q : ℕ) → Stops body p → Stops body q → p < q → ⊥
not_before body p q first second less =
    let within = second.within in
    first.dead (omega arith) (take_alive body (suc p) q (omega arith) second.alive)

pub one_place : (body : List ℕ) (p q : ℕ) → Stops body p → Stops body q → p ≡ q
one_place body p q first second =
    elim (nat_lt p q) as (λ x. nat_lt p q ≡ x → p ≡ q) [
      | true ↦ λ is. absurd (not_before body p q first second (ltb-true p q is))
      | false ↦ λ is. elim (nat_lt q p) as (λ x. nat_lt q p ≡ x → p ≡ q) [
        | true ↦ λ is2. absurd (not_before body q p second first (ltb-true q p is2))
        | false ↦ λ is2. (let a = ltb-false p q is in let b = ltb-false q p is2 in omega (arith, a, b))
      ] refl
    ] refl

pub no_place : (body : List ℕ) (e : Tree) (q : ℕ) → IsBody body e → Stops body q → ⊥
no_place body e q is stops =
    let within = stops.within in
    let whole : IsAlive (take (length body) body) = subst IsAlive (sym (take_all (length body) body (omega arith))) ([], e, subst (λ (x : List ℕ). IsBody x e) (sym (append-nil body)) is) in
    elim (nat_lt q (length body)) as (λ x. nat_lt q (length body) ≡ x → ⊥) [
      | true ↦ λ less. (let small = ltb-true q (length body) less in stops.dead small (take_alive body (suc q) (length body) (omega (arith, small)) whole))
      | false ↦ λ more. (let large = ltb-false q (length body) more in stops.short (omega (arith, large)) e is)
    ] refl

-- ---- canonical text

pub canonical_again : (e f : Tree) → IsElement e → IsBody (element_text e) f → element_text f ≡ element_text e
canonical_again e f is said = ap element_text (one_value (element_text e) f e said (canonical-body e is))

-- ---- what is said is lawful

allowed_written : (stop : ℕ) (w : Written) → is_written stop w ≡ true → is_allowed (written_char w) ≡ true
allowed_written stop (plain c) is = left_of (is_allowed c) _ (left_of _ (not (c == 60)) (left_of _ (not (c == stop)) is))
allowed_written stop (named c) is = named_cases c is (λ x. is_allowed x ≡ true) refl refl refl refl refl
allowed_written stop (decimal digits) is = right_of _ (is_allowed (written_char (decimal digits))) is
allowed_written stop (hexadecimal digits) is = right_of _ (is_allowed (written_char (hexadecimal digits))) is

value_allowed : (q : ℕ) (ws : List Written) → list_all (is_written q) ws ≡ true → list_all is_allowed (map written_char ws) ≡ true
value_allowed q [] are = refl
value_allowed q (w ∷ ws) are = both _ _ (allowed_written q w (left_of (is_written q w) _ are)) (value_allowed q ws (right_of (is_written q w) _ are))

pub attrs_lawful : (attrs : List AttrText) (before : List Attr) → are_attrs before ≡ true → AreAttrTexts before attrs → are_attrs (before ++ map attr_said attrs) ≡ true
attrs_lawful [] before are is = ap are_attrs (append-nil before) ∙ are
attrs_lawful (a ∷ attrs) before are is =
    ap are_attrs (sym (append_assoc before (attr_said a ∷ []) (map attr_said attrs)))
    ∙ attrs_lawful attrs (before ++ attr_said a ∷ []) (are_attrs-push before (attr_said a) are is.0.name (value_allowed a.quote a.value is.0.value) is.1) is.2

put_lawful : (items : Items) (c : ℕ) → are_items items ≡ true → is_allowed c ≡ true → are_items (put items c) ≡ true
put_lawful nothing c are allowed = both _ _ (both _ _ refl refl) (both _ _ allowed refl)
put_lawful (with_chars items cs) c are allowed =
    let three = left_of _ (list_all is_allowed cs) are in
    let two = left_of _ (nat_lt 0 (length cs)) three in
    both _ _ (both _ _ two (lt-ltb 0 (length (cs ++ c ∷ [])) (omega (arith, length-append cs (c ∷ [])))))
    (list_all-append is_allowed cs (c ∷ []) ∙ both _ _ (right_of (are_items items && not (ends_in_chars items) && nat_lt 0 (length cs)) _ are) (both _ _ allowed refl))
put_lawful (with_child items name attrs inside) c are allowed = both _ _ (both _ _ (both _ _ are refl) refl) (both _ _ allowed refl)

fold_lawful : (cs : List ℕ) (items : Items) → are_items items ≡ true → list_all is_allowed cs ≡ true → are_items (fold put items cs) ≡ true
fold_lawful [] items are is = are
fold_lawful (c ∷ cs) items are is = fold_lawful cs (put items c) (put_lawful items c are (left_of (is_allowed c) _ is)) (right_of (is_allowed c) _ is)

put_depth : (items : Items) (c : ℕ) → depth_of (put items c) ≡ depth_of items
put_depth nothing c = refl
put_depth (with_chars items cs) c = refl
put_depth (with_child items name attrs inside) c = refl

fold_depth : (cs : List ℕ) (items : Items) → depth_of (fold put items cs) ≡ depth_of items
fold_depth [] items = refl
fold_depth (c ∷ cs) items = fold_depth cs (put items c) ∙ put_depth items c

pub pieces_items : (depth : ℕ) (ps : Pieces) → IsPieces depth ps → (are_items (items_of ps) ≡ true) × (depth ≤ MAX_NESTED → depth_of (items_of ps) + depth ≤ MAX_NESTED)
pieces_items depth no_pieces is = (refl, λ within. omega arith)
pieces_items depth (character ps w) is =
    let before = pieces_items depth ps is.0 in
    (put_lawful (items_of ps) (written_char w) before.0 (allowed_written 60 w is.1), λ within. omega (arith, before.1 within, put_depth (items_of ps) (written_char w)))
pieces_items depth (section ps cs) is =
    let before = pieces_items depth ps is.0 in
    (fold_lawful cs (items_of ps) before.0 is.1, λ within. omega (arith, before.1 within, fold_depth cs (items_of ps)))
pieces_items depth (alone ps t) is =
    let before = pieces_items depth ps is.0 in
    (both _ _ (both _ _ (both _ _ before.0 is.1.name) (attrs_lawful t.attrs [] refl is.1.attrs)) refl, λ within. (let deep = is.2 in omega (arith, before.1 within)))
pieces_items depth (around ps t inner gap) is =
    let before = pieces_items depth ps is.0 in
    let held = pieces_items (suc depth) inner is.3 in
    (both _ _ (both _ _ (both _ _ before.0 is.1.name) (attrs_lawful t.attrs [] refl is.1.attrs)) held.0, λ within. (let deep = is.2 in omega (arith, before.1 within, held.1 deep)))

pub lawful_value : (body : List ℕ) (e : Tree) → IsBody body e → IsElement e
lawful_value body e is =
    let all = pieces_items 0 is.root is.pieces in
    let are : are_items (with_child nothing e.name e.attrs e.items) ≡ true = ap are_items (sym is.value) ∙ all.0 in
    let deep : depth_of (with_child nothing e.name e.attrs e.items) + 0 ≤ MAX_NESTED = subst (λ (x : Items). depth_of x + 0 ≤ MAX_NESTED) is.value (all.1 (omega arith)) in
    let three = left_of _ (are_items e.items) are in
    let two = left_of _ (are_attrs e.attrs) three in
    record { named = right_of true (is_name e.name) two; attrs = right_of (true && is_name e.name) (are_attrs e.attrs) three; items = right_of (true && is_name e.name && are_attrs e.attrs) (are_items e.items) are; nested = omega arith }
