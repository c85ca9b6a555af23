use Rattle.std.proofs.Common.{◌≡◌, ℕ, suc, ◌+◌, ◌<◌, Bool, true, false, ◌&&◌, ◌==◌, cond, List, [], ◌∷◌, ◌++◌, length, fold, flat_map, take, get_or, chars, encode_utf8_all, IsUtf8, refl, sym, ap, ◌∙◌, append_assoc, append-nil, arith, ne_eqb, zero}
use Rattle.std.specs.List.{list_all}
use Rattle.std.proofs.lemmas.Str.{encodes-chars, encode_ascii}
use Rattle.std.proofs.lemmas.List.Folds.{flat_map-map}
use Rattle.std.proofs.lemmas.List.Sums.{fold_more}
use Rattle.std.proofs.lemmas.Bool.Decides.{nat_tests}
use Rattle.beep_text.specs.declared.attr.Attr.{Attr}
use Rattle.beep_text.specs.declared.element.Item.{Item}
use Rattle.beep_chars.specs.Characters.{is_name, is_begun_name, is_name_start, is_name_char, is_allowed}
use Rattle.beep_text.specs.Tree.{Items, nothing}
use Rattle.beep_text.specs.Listed.{with_item, items_listed, tree_of}
use Rattle.beep_text.specs.Lawful.{are_attrs}
use Rattle.beep_text.specs.Elements.{Pieces, no_pieces, character, alone, around, pieces_text, written_text, attr_text, tag_text}
use Rattle.beep_text.specs.Canonical.{written_as, attr_as, tag_as, chars_as, pieces_as, element_text, items_text, item_text, is_nothing}
use Rattle.beep_text.proofs.ElementLemmas.{left_of, right_of, both}

-- ---- names are ASCII

name_char-ascii : (c : ℕ) → is_name_char c ≡ true → c < 128
name_char-ascii c is = grind (arith, nat_tests)

all-encoded : (cs : List ℕ) → list_all is_name_char cs ≡ true → encode_utf8_all cs ≡ cs
all-encoded [] are = refl
all-encoded (c ∷ cs) are =
    ap (λ bs. bs ++ encode_utf8_all cs) (encode_ascii c (name_char-ascii c (left_of (is_name_char c) _ are))) ∙ ap (λ bs. c ∷ bs) (all-encoded cs (right_of (is_name_char c) _ are))

start-char : (c : ℕ) → is_name_start c ≡ true → is_name_char c ≡ true
start-char c is = rw is refl

-- the characters of a name go on as one
pub name_chars : (cs : List ℕ) → is_name cs ≡ true → list_all is_name_char cs ≡ true
name_chars [] is = refl
name_chars (c ∷ cs) is =
    let begun = left_of (is_begun_name (c ∷ cs)) _ is in
    both _ _ (start-char c (left_of (is_name_start c) _ begun)) (right_of (is_name_start c) _ begun)

-- the octets of a name are its characters
pub name-encoded : (cs : List ℕ) → is_name cs ≡ true → encode_utf8_all cs ≡ cs
name-encoded cs is = all-encoded cs (name_chars cs is)

pub name-octets : (bs cs : List ℕ) → IsUtf8 bs → chars bs ≡ cs → is_name cs ≡ true → bs ≡ cs
name-octets bs cs utf8 said is = sym (encodes-chars bs utf8) ∙ ap encode_utf8_all said ∙ name-encoded cs is

pub named_at : (attrs : List Attr) (i : ℕ) (d : Attr) → are_attrs attrs ≡ true → i < length attrs → is_name (get_or attrs i d).name ≡ true
named_at [] i d are within = absurd (omega arith)
named_at (a ∷ attrs) zero d are within = left_of (is_name a.name) _ (left_of (is_name a.name && list_all is_allowed a.value) _ (left_of _ (are_attrs attrs) are))
named_at (a ∷ attrs) (suc i) d are within = named_at attrs i d (right_of _ (are_attrs attrs) are) (omega arith)

pub named_read : (attrs : List Attr) (i : ℕ) (a : Attr) → are_attrs attrs ≡ true → i < length attrs → a ≡ get_or attrs i a → is_name a.name ≡ true
named_read attrs i a are within is = ap (λ (x : Attr). is_name x.name) is ∙ named_at attrs i a are within

-- ---- the text of an attribute, and of an element

pub attr_joined : (o0 o1 o2 o3 o4 o5 name value : List ℕ) → o1 ≡ o0 ++ 32 ∷ [] → o2 ≡ o1 ++ name → o3 ≡ o2 ++ 61 ∷ 39 ∷ [] → o4 ≡ o3 ++ value → o5 ≡ o4 ++ 39 ∷ []
    → o5 ≡ o0 ++ (32 ∷ (name ++ [] ++ 61 ∷ [] ++ 39 ∷ value ++ 39 ∷ []))
attr_joined o0 o1 o2 o3 o4 o5 name value a b c d e = rw (e, d, c, b, a) (simp (append_assoc, append-nil))

pub alone_joined : (o0 o1 o2 o3 o4 name attrs : List ℕ) → o1 ≡ o0 ++ 60 ∷ [] → o2 ≡ o1 ++ name → o3 ≡ o2 ++ attrs → o4 ≡ o3 ++ 32 ∷ 47 ∷ 62 ∷ []
    → o4 ≡ o0 ++ ([] ++ (60 ∷ name ++ attrs ++ 32 ∷ []) ++ 47 ∷ 62 ∷ [])
alone_joined o0 o1 o2 o3 o4 name attrs a b c d = rw (d, c, b, a) (simp (append_assoc, append-nil))

pub around_joined : (o0 o1 o2 o3 o4 o5 o6 o7 o8 name attrs inner : List ℕ) → o1 ≡ o0 ++ 60 ∷ [] → o2 ≡ o1 ++ name → o3 ≡ o2 ++ attrs → o4 ≡ o3 ++ 62 ∷ [] → o5 ≡ o4 ++ inner
    → o6 ≡ o5 ++ 60 ∷ 47 ∷ [] → o7 ≡ o6 ++ name → o8 ≡ o7 ++ 62 ∷ []
    → o8 ≡ o0 ++ ([] ++ (60 ∷ name ++ attrs ++ []) ++ 62 ∷ inner ++ 60 ∷ 47 ∷ name ++ [] ++ 62 ∷ [])
around_joined o0 o1 o2 o3 o4 o5 o6 o7 o8 name attrs inner a b c d e f g h = rw (h, g, f, e, d, c, b, a) (simp (append_assoc, append-nil))

-- ---- the text of what an element holds

is_some_part : (items : Items) (x : Item) → is_nothing (with_item items x) ≡ false
is_some_part items (Item.Chars cs) = refl
is_some_part items (Item.Child e) = refl

stays : (items : Items) (xs : List Item) → is_nothing items ≡ false → is_nothing (fold with_item items xs) ≡ false
stays items [] is = is
stays items (x ∷ xs) is = stays (with_item items x) xs (is_some_part items x)

pub is_nothing-items_listed : (xs : List Item) → is_nothing (items_listed xs) ≡ (length xs == 0)
is_nothing-items_listed [] = refl
is_nothing-items_listed (x ∷ xs) = stays (with_item nothing x) xs (is_some_part nothing x) ∙ sym (ne_eqb _ _ (λ e. absurd (omega (arith, e))))

pub pieces_text-chars_as : (ps : Pieces) (cs : List ℕ) → pieces_text (chars_as ps cs) ≡ pieces_text ps ++ flat_map (λ c. written_text (written_as false c)) cs
pieces_text-chars_as ps [] = sym (append-nil (pieces_text ps))
pieces_text-chars_as ps (c ∷ cs) =
    pieces_text-chars_as (character ps (written_as false c)) cs ∙ append_assoc (pieces_text ps) (written_text (written_as false c)) _

regroup : (a b c d e : List ℕ) → a ++ b ++ c ++ d ++ [] ++ e ≡ a ++ (b ++ c ++ d ++ [] ++ e)
regroup a b c d e = simp (append_assoc, append-nil)

pub pieces_text-child_as : (ps : Pieces) (name : List ℕ) (attrs : List Attr) (b : Bool) (inner : Pieces)
    → pieces_text (cond b (alone ps (tag_as name attrs (32 ∷ []))) (around ps (tag_as name attrs []) inner []))
    ≡ pieces_text ps ++ pieces_text (cond b (alone no_pieces (tag_as name attrs (32 ∷ []))) (around no_pieces (tag_as name attrs []) inner []))
pieces_text-child_as ps name attrs true inner = append_assoc (pieces_text ps) (tag_text (tag_as name attrs (32 ∷ []))) (47 ∷ 62 ∷ [])
pieces_text-child_as ps name attrs false inner =
    regroup (pieces_text ps) (tag_text (tag_as name attrs [])) (62 ∷ pieces_text inner) (60 ∷ 47 ∷ name) (62 ∷ [])

pub items_text-with_item : (items : Items) (x : Item) → items_text (with_item items x) ≡ items_text items ++ item_text x
items_text-with_item items (Item.Chars cs) = pieces_text-chars_as (pieces_as items) cs
items_text-with_item items (Item.Child e) = pieces_text-child_as (pieces_as items) e.name e.attrs (is_nothing e.items) (pieces_as e.items)

pub items_text-more : (old out new : List ℕ) (xs : List Item) (i : ℕ) (d : Item) → i < length xs → out ≡ old ++ items_text (items_listed (take i xs))
    → new ≡ out ++ item_text (get_or xs i d) → new ≡ old ++ items_text (items_listed (take (i + 1) xs))
items_text-more old out new xs i d within before after =
    after ∙ ap (λ bs. bs ++ item_text (get_or xs i d)) before ∙ append_assoc old _ _
    ∙ ap (λ bs. old ++ bs) (sym (items_text-with_item (items_listed (take i xs)) (get_or xs i d)) ∙ sym (ap items_text (fold_more with_item nothing xs i d within)))

pub text_alone : (name : List ℕ) (attrs : List Attr) (xs : List Item) → (length xs == 0) ≡ true
    → element_text (tree_of name attrs xs) ≡ [] ++ (60 ∷ name ++ flat_map (λ a. attr_text (attr_as a)) attrs ++ 32 ∷ []) ++ 47 ∷ 62 ∷ []
text_alone name attrs xs is = rw (is_nothing-items_listed xs, is, flat_map-map attr_text attr_as attrs) refl

pub text_around : (name : List ℕ) (attrs : List Attr) (xs : List Item) → (length xs == 0) ≡ false
    → element_text (tree_of name attrs xs) ≡ [] ++ (60 ∷ name ++ flat_map (λ a. attr_text (attr_as a)) attrs ++ []) ++ 62 ∷ items_text (items_listed xs) ++ 60 ∷ 47 ∷ name ++ [] ++ 62 ∷ []
text_around name attrs xs is = rw (is_nothing-items_listed xs, is, flat_map-map attr_text attr_as attrs) refl
