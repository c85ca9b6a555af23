-- Each step of the machine keeps what the octets say.
use Rattle.std.proofs.Common.{◌≡◌, ℕ, zero, suc, ◌+◌, ◌<◌, ◌≤◌, Bool, true, false, ◌&&◌, ◌||◌, ◌==◌, nat_lt, if◌then◌else◌, List, [], ◌∷◌, ◌++◌, length, map, flat_map, take, fold, replicate, get_or, codes, encode_utf8, encode_utf8_all, Option, Some, None, refl, sym, ap, ap₂, subst, subst₂, true≢false, ◌∙◌, append_assoc, append-nil, arith, length-append, eqb-true, ltb-true, ltb-false, le-leb, lt-ltb}
use Rattle.std.specs.List.{list_all}
use Rattle.std.proofs.lemmas.List.Folds.{list_all-append}
use Rattle.std.proofs.lemmas.List.{take_more, take_all, map-append, same_from_push, replicate_more}
use Rattle.std.proofs.lemmas.Bool.{eqb-false}
use Rattle.std.proofs.lemmas.Bool.Decides.{nat_tests}
use Rattle.std.proofs.lemmas.List.Sums.{fold-append}
use Rattle.std.proofs.lemmas.Str.{encode_ascii, encodes-append}
use Rattle.std.proofs.lemmas.List.Concat.{flat_map-append}
use Rattle.beep_text.specs.declared.attr.Attr.{Attr}
use Rattle.beep_text.specs.declared.mode.Part.{Part}
use Rattle.beep_text.specs.declared.mode.Taken.{Taken}
use Rattle.beep_text.specs.declared.mode.Mode.{Mode}
use Rattle.beep_chars.specs.declared.limits.TheConstants.{MAX_NAME}
use Rattle.beep_text.specs.declared.limits.TheConstants.{MAX_NESTED}
use Rattle.beep_chars.specs.Characters.{is_space, is_allowed, is_name, is_begun_name, is_name_start, is_name_char}
use Rattle.beep_text.specs.Lawful.{has_name}
use Rattle.beep_text.specs.Tree.{Items, Tree, with_child}
use Rattle.beep_text.specs.Elements.{Written, written_text, written_char, is_written, AttrText, attr_text, attr_said, IsAttrText, AreAttrTexts, Tag, tag_text, Pieces, no_pieces, character, section, alone, around, pieces_text, items_of, put, IsSection, IsPieces, is_one}
use Rattle.beep_text.specs.Machine.{State, start, step, step_in, lead_step, begun_step, naming_step, tag_step, slash_step, attr_step, equals_step, quote_step, value_step, content_step, bang_step, section_step, closing_step, closed_step, value_taken, content_taken, section_taken, taken_after, char_taken, is_fresh, is_nil, has_room, ended_in, run}
use Rattle.beep_text.proofs.ElementLemmas.{left_of, right_of, both}
use Rattle.beep_text.proofs.WrittenLemmas.{by_test}
use Rattle.beep_text.proofs.CharLemmas.{PartText, WrittenTaken, PlainTaken, char-text, fresh-text, plain-octet, plain-text}
use Rattle.beep_text.proofs.ReachedLemmas.{Inside, Opening, Naming, IsAttrName, IsValue, IsOpen, InSection, ReachedIn, Reached}

-- what a step leads to
abbrev pub Stepped : List ℕ → Option State → Type 0
Stepped t None = Unit {0}
Stepped t (Some s) = Reached s t

-- ---- lists

longer : (t front mid : List ℕ) (b : ℕ) → t ≡ front ++ mid → t ++ b ∷ [] ≡ front ++ (mid ++ b ∷ [])
longer t front mid b is = ap (λ x. x ++ b ∷ []) is ∙ append_assoc front mid (b ∷ [])

longer_by : (t front mid : List ℕ) (b k : ℕ) → t ≡ front ++ mid → b ≡ k → t ++ b ∷ [] ≡ front ++ (mid ++ k ∷ [])
longer_by t front mid b k is same = longer t front mid b is ∙ ap (λ x. front ++ (mid ++ x ∷ [])) same

all_push : (p : ℕ → Bool) (xs : List ℕ) (b : ℕ) → list_all p xs ≡ true → p b ≡ true → list_all p (xs ++ b ∷ []) ≡ true
all_push p xs b are is = list_all-append p xs (b ∷ []) ∙ both _ _ are (both _ _ is refl)

some_push : (xs : List ℕ) (b : ℕ) → true ≡ nat_lt 0 (length (xs ++ b ∷ []))
some_push xs b = sym (lt-ltb 0 _ (omega (arith, length-append xs (b ∷ []))))

-- ---- names

first_name : (b : ℕ) → is_name_start b ≡ true → is_name (b ∷ []) ≡ true
first_name b is = both _ _ (both _ _ is refl) refl

begun_push : (xs : List ℕ) (b : ℕ) → is_begun_name xs ≡ true → is_name_char b ≡ true → is_begun_name (xs ++ b ∷ []) ≡ true
begun_push [] b begun is = absurd (cc begun)
begun_push (x ∷ xs) b begun is = both _ _ (left_of (is_name_start x) _ begun) (all_push is_name_char xs b (right_of (is_name_start x) _ begun) is)

name_push : (xs : List ℕ) (b : ℕ) → is_name xs ≡ true → is_name_char b ≡ true → nat_lt (length xs) MAX_NAME ≡ true → is_name (xs ++ b ∷ []) ≡ true
name_push xs b named is room =
    both _ _ (begun_push xs b (left_of (is_begun_name xs) _ named) is) (le-leb _ _ (omega (arith, length-append xs (b ∷ []), ltb-true (length xs) MAX_NAME room)))

-- ---- an element ends

attached_in : (ups : List Tree) (up : Tree) (name : List ℕ) (attrs : List Attr) (items : Items) (attr value before t text : List ℕ) (make : Pieces → Pieces) → Inside ups up before → t ≡ before ++ text
    → ((ps : Pieces) → pieces_text (make ps) ≡ pieces_text ps ++ text) → ((ps : Pieces) → IsPieces (length ups) ps → IsPieces (length ups) (make ps))
    → ((ps : Pieces) → items_of (make ps) ≡ with_child (items_of ps) name attrs items) → is_one (make no_pieces) ≡ true
    → Stepped t (ended_in (up ∷ ups) (record { name = name; attrs = attrs; items = items }) attr value)
attached_in [] up name attrs items attr value before t text make inside is texts lawful says one = (
  record { name = name; attrs = attrs; items = items },
  refl,
  record {
    before = before;
    root = make no_pieces;
    after = [];
    text = is ∙ sym (ap (λ x. before ++ x) (texts no_pieces)) ∙ sym (append-nil _);
    spaces_before = inside.0;
    spaces_after = refl;
    one = one;
    pieces = lawful no_pieces tt;
    value = says no_pieces;
  },
  ap (λ (u : Tree). record { name = u.name; attrs = u.attrs; items = with_child u.items name attrs items }) inside.1,
)
attached_in (up2 ∷ ups) up name attrs items attr value before t text make inside is texts lawful says one =
    let pieces = inside.2 in (
      refl,
      (
        t,
        [],
        (
          inside.0,
          inside.1,
          make pieces,
          inside.3,
          inside.4,
          inside.5,
          lawful pieces inside.6,
          is ∙ ap (λ x. x ++ text) inside.7 ∙ append_assoc inside.0 (tag_text inside.1 ++ 62 ∷ pieces_text pieces) text
              ∙ ap (λ x. inside.0 ++ x) (append_assoc (tag_text inside.1) (62 ∷ pieces_text pieces) text ∙ ap (λ x. tag_text inside.1 ++ 62 ∷ x) (sym (texts pieces))),
          ap (λ (u : Tree). record { name = u.name; attrs = u.attrs; items = with_child u.items name attrs items }) inside.8
              ∙ ap (λ x. record { name = inside.1.name; attrs = map attr_said inside.1.attrs; items = x }) (sym (says pieces)),
        ),
        refl,
        sym (append-nil t),
      ),
    )

-- ---- the steps

lead : (below : List Tree) (top : Tree) (attr value t : List ℕ) (b : ℕ) → ReachedIn Mode.Lead below top attr value t
    → Stepped (t ++ b ∷ []) (lead_step (record { below = below; top = top; attr = attr; value = value; mode = Mode.Lead }) b)
lead [] top attr value t b is =
    by_test (Stepped (t ++ b ∷ [])) (is_space b) (λ space. (refl, (all_push is_space t b is.1.0 space, is.1.1))) (λ _.
    by_test (Stepped (t ++ b ∷ [])) (b == 60) (λ same. (t, is.1, ap (λ x. t ++ x ∷ []) (eqb-true b 60 same))) (λ _. tt))
lead (up ∷ ups) top attr value t b is = absurd (cc (is.0))

begun : (below : List Tree) (top : Tree) (attr value t : List ℕ) (b : ℕ) → ReachedIn Mode.Begun below top attr value t
    → Stepped (t ++ b ∷ []) (begun_step (record { below = below; top = top; attr = attr; value = value; mode = Mode.Begun }) b)
begun below top attr value t b is =
    by_test (Stepped (t ++ b ∷ [])) (is_name_start b)
    (λ begins. by_test (Stepped (t ++ b ∷ [])) (nat_lt (length below) MAX_NESTED)
    (λ room. (is.0, is.1, first_name b begins, ltb-true (length below) MAX_NESTED room, longer t is.0 (60 ∷ []) b is.2, refl, refl)) (λ _. tt)) (λ _.
    by_test (Stepped (t ++ b ∷ [])) (is_nil below) (λ _. tt) (λ opened.
    by_test (Stepped (t ++ b ∷ [])) (b == 47) (λ same. (is.0, opened, is.1, omega arith, longer_by t is.0 (60 ∷ []) b 47 is.2 (eqb-true b 47 same))) (λ _.
    by_test (Stepped (t ++ b ∷ [])) (b == 33) (λ same. (is.0, opened, is.1, omega arith, longer_by t is.0 (60 ∷ []) b 33 is.2 (eqb-true b 33 same))) (λ _. tt))))

-- a start tag with white space more
opening-space : (below : List Tree) (top : Tree) (gap t : List ℕ) (b : ℕ) → Opening below top gap t → Opening below top (gap ++ b ∷ []) (t ++ b ∷ [])
opening-space [] top gap t b is = absurd is
opening-space (up ∷ ups) top gap t b is = record {
  before = is.before;
  attrs = is.attrs;
  inside = is.inside;
  named = is.named;
  are = is.are;
  deep = is.deep;
  settings = is.settings;
  items = is.items;
  text = longer t is.before _ b is.text ∙ ap (λ x. is.before ++ x) (append_assoc (60 ∷ top.name ++ flat_map attr_text is.attrs) gap (b ∷ []));
}

-- the tag of an open start tag
tag_of : (top : Tree) (attrs : List AttrText) (gap : List ℕ) → Tag
tag_of top attrs gap = record { name = top.name; attrs = attrs; gap = gap }

-- a start tag is whole
opened : (below : List Tree) (top : Tree) (attr value gap t : List ℕ) (b : ℕ) → Opening below top gap t → list_all is_space gap ≡ true → b ≡ 62 → ReachedIn (Mode.Content Part.Fresh) below top attr value (t ++ b ∷ [])
opened [] top attr value gap t b is spaces same = absurd is
opened (up ∷ ups) top attr value gap t b is spaces same = (
  refl,
  (
    t ++ b ∷ [],
    [],
    (
      is.before,
      record { name = top.name; attrs = is.attrs; gap = gap },
      no_pieces,
      is.inside,
      record { name = is.named; attrs = is.are; gap = spaces },
      is.deep,
      tt,
      longer_by t is.before _ b 62 is.text same,
      ap₂ (λ settings items. record { name = top.name; attrs = settings; items = items }) is.settings is.items,
    ),
    refl,
    sym (append-nil (t ++ b ∷ [])),
  ),
)

tag : (spaced : Bool) (below : List Tree) (top : Tree) (attr value t : List ℕ) (mode : Mode) (b : ℕ) → ReachedIn (Mode.Tag spaced) below top attr value t
    → Stepped (t ++ b ∷ []) (tag_step spaced (record { below = below; top = top; attr = attr; value = value; mode = mode }) b)
tag spaced below top attr value t mode b is =
    by_test (Stepped (t ++ b ∷ [])) (is_space b) (λ space. (is.0 ++ b ∷ [], opening-space below top is.0 t b is.1, all_push is_space is.0 b is.2 space, some_push is.0 b)) (λ _.
    by_test (Stepped (t ++ b ∷ [])) (b == 62) (λ same. opened below top attr value is.0 t b is.1 is.2 (eqb-true b 62 same)) (λ _.
    by_test (Stepped (t ++ b ∷ [])) (b == 47) (λ same. (t, is.0, is.1, is.2, ap (λ x. t ++ x ∷ []) (eqb-true b 47 same))) (λ _.
    by_test (Stepped (t ++ b ∷ [])) (spaced && is_name_start b && has_room (b ∷ []) top.attrs)
    (λ three. let two = left_of (spaced && is_name_start b) _ three in
    (record { front = t; gap = is.0; opening = is.1; spaces = both _ _ is.2 (sym is.3 ∙ left_of spaced _ two); named = first_name b (right_of spaced _ two); text = refl }, right_of (spaced && is_name_start b) _ three))
    (λ _. tt))))

-- a start tag of a name alone
naming-opening : (below : List Tree) (top : Tree) (t : List ℕ) → Naming below top t → Opening below top [] t
naming-opening [] top t is = is
naming-opening (up ∷ ups) top t is = record {
  before = is.0;
  attrs = [];
  inside = is.1;
  named = is.2;
  are = tt;
  deep = is.3;
  settings = is.5;
  items = is.6;
  text = is.4 ∙ ap (λ x. is.0 ++ 60 ∷ x) (sym (append-nil top.name)) ∙ ap (λ x. is.0 ++ 60 ∷ x) (sym (append-nil (top.name ++ [])));
}

naming-more : (below : List Tree) (top : Tree) (attr value t : List ℕ) (b : ℕ) → Naming below top t → is_name_char b ≡ true → nat_lt (length top.name) MAX_NAME ≡ true
    → Naming below (record { name = top.name ++ b ∷ []; attrs = top.attrs; items = top.items }) (t ++ b ∷ [])
naming-more [] top attr value t b is char room = is
naming-more (up ∷ ups) top attr value t b is char room = (is.0, is.1, name_push top.name b is.2 char room, is.3, longer t is.0 (60 ∷ top.name) b is.4, is.5, is.6)

naming : (below : List Tree) (top : Tree) (attr value t : List ℕ) (b : ℕ) → ReachedIn Mode.Naming below top attr value t
    → Stepped (t ++ b ∷ []) (naming_step (record { below = below; top = top; attr = attr; value = value; mode = Mode.Naming }) b)
naming below top attr value t b is =
    by_test (Stepped (t ++ b ∷ [])) (is_name_char b)
    (λ char. by_test (Stepped (t ++ b ∷ [])) (nat_lt (length top.name) MAX_NAME) (λ room. naming-more below top attr value t b is char room) (λ _. tt))
    (λ _. tag false below top attr value t Mode.Naming b ([], naming-opening below top t is, refl, refl))

slash : (below : List Tree) (top : Tree) (attr value t : List ℕ) (b : ℕ) → ReachedIn Mode.Slash below top attr value t
    → Stepped (t ++ b ∷ []) (slash_step (record { below = below; top = top; attr = attr; value = value; mode = Mode.Slash }) b)
slash [] top attr value t b is = absurd is.2
slash (up ∷ ups) top attr value t b is =
    let o = is.2 in
    let whole : Tag = record { name = top.name; attrs = o.attrs; gap = is.1 } in
    by_test (Stepped (t ++ b ∷ [])) (b == 62)
    (λ same. attached_in ups up top.name top.attrs top.items attr value o.before (t ++ b ∷ []) (tag_text whole ++ codes "/>") (λ ps. alone ps whole) o.inside
    (ap (λ x. x ++ b ∷ []) (is.4 ∙ ap (λ x. x ++ 47 ∷ []) o.text) ∙ ap (λ x. o.before ++ tag_text whole ++ 47 ∷ [] ++ x ∷ []) (eqb-true b 62 same) ∙ regroup o.before (tag_text whole))
    (λ ps. append_assoc (pieces_text ps) (tag_text whole) (codes "/>"))
    (λ ps lawful. (lawful, record { name = o.named; attrs = o.are; gap = is.3 }, o.deep))
    (λ ps. ap₂ (with_child (items_of ps) top.name) (sym o.settings) (sym o.items)) refl)
    (λ _. tt)
  where
    regroup : (a c : List ℕ) → a ++ c ++ 47 ∷ [] ++ 62 ∷ [] ≡ a ++ (c ++ 47 ∷ 62 ∷ [])
    regroup a c = simp append_assoc

-- ---- attributes

equals-on : (below : List Tree) (top : Tree) (attr value front gap t : List ℕ) (mode : Mode) (b : ℕ) → IsAttrName below top attr front → has_name attr top.attrs ≡ false → list_all is_space gap ≡ true
    → t ≡ front ++ gap → Stepped (t ++ b ∷ []) (equals_step (record { below = below; top = top; attr = attr; value = value; mode = mode }) b)
equals-on below top attr value front gap t mode b name new spaces text =
    by_test (Stepped (t ++ b ∷ [])) (is_space b)
    (λ space. record { front = front; gap = gap ++ b ∷ []; name = name; new = new; spaces = all_push is_space gap b spaces space; text = longer t front gap b text }) (λ _.
    by_test (Stepped (t ++ b ∷ [])) (b == 61)
    (λ same. record { front = t; gap = []; equals = record { front = front; gap = gap; name = name; new = new; spaces = spaces; text = text }; spaces = refl; text = ap (λ x. t ++ x ∷ []) (eqb-true b 61 same) })
    (λ _. tt))

attribute : (below : List Tree) (top : Tree) (attr value t : List ℕ) (b : ℕ) → ReachedIn Mode.Attr below top attr value t
    → Stepped (t ++ b ∷ []) (attr_step (record { below = below; top = top; attr = attr; value = value; mode = Mode.Attr }) b)
attribute below top attr value t b is =
    let name = is.0 in
    by_test (Stepped (t ++ b ∷ [])) (is_name_char b)
    (λ char. by_test (Stepped (t ++ b ∷ [])) (nat_lt (length attr) MAX_NAME && has_room (attr ++ b ∷ []) top.attrs)
    (λ room. (record { front = name.front; gap = name.gap; opening = name.opening; spaces = name.spaces; named = name_push attr b name.named char (left_of _ _ room); text = longer t name.front attr b name.text }, right_of (nat_lt (length attr) MAX_NAME) _ room)) (λ _. tt))
    (λ _. by_test (Stepped (t ++ b ∷ [])) (has_name attr top.attrs) (λ _. tt)
    (λ new. equals-on below top attr value t [] t Mode.Attr b name new refl (sym (append-nil t))))

equals : (below : List Tree) (top : Tree) (attr value t : List ℕ) (b : ℕ) → ReachedIn Mode.Equals below top attr value t
    → Stepped (t ++ b ∷ []) (equals_step (record { below = below; top = top; attr = attr; value = value; mode = Mode.Equals }) b)
equals below top attr value t b is = equals-on below top attr value is.front is.gap t Mode.Equals b is.name is.new is.spaces is.text

quote : (below : List Tree) (top : Tree) (attr value t : List ℕ) (b : ℕ) → ReachedIn Mode.Quote below top attr value t
    → Stepped (t ++ b ∷ []) (quote_step (record { below = below; top = top; attr = attr; value = value; mode = Mode.Quote }) b)
quote below top attr value t b is =
    by_test (Stepped (t ++ b ∷ [])) (is_space b)
    (λ space. record { front = is.front; gap = is.gap ++ b ∷ []; equals = is.equals; spaces = all_push is_space is.gap b is.spaces space; text = longer t is.front (61 ∷ is.gap) b is.text }) (λ _.
    by_test (Stepped (t ++ b ∷ [])) (b == 34 || b == 39)
    (λ begins. (t ++ b ∷ [], [], record { front = t; written = []; quoted = is; is_quote = begins; are = refl; said = refl; text = refl }, refl, sym (append-nil (t ++ b ∷ []))))
    (λ _. tt))

-- one more attribute with a new name
are-push : (before : List Attr) (attrs : List AttrText) (a : AttrText) → AreAttrTexts before attrs → IsAttrText a → has_name a.name (before ++ map attr_said attrs) ≡ false → AreAttrTexts before (attrs ++ a ∷ [])
are-push before [] a are is new = (is, ap (has_name a.name) (sym (append-nil before)) ∙ new, tt)
are-push before (x ∷ attrs) a are is new =
    (are.0, are.1, are-push (before ++ attr_said x ∷ []) attrs a are.2 is (ap (has_name a.name) (append_assoc before (attr_said x ∷ []) (map attr_said attrs)) ∙ new))

-- the attribute of an open value
setting_of : (attr gap before after : List ℕ) (quote : ℕ) (value : List Written) → AttrText
setting_of attr gap before after quote value = record { gap = gap; name = attr; before = before; after = after; quote = quote; value = value }

joined : (start front gap attr before after value : List ℕ) (q b : ℕ) → b ≡ q → (((((start ++ (front ++ gap)) ++ attr) ++ before) ++ 61 ∷ after) ++ q ∷ value) ++ b ∷ []
    ≡ start ++ (front ++ ((gap ++ attr ++ before ++ 61 ∷ after ++ q ∷ value ++ q ∷ []) ++ []) ++ [])
joined start front gap attr before after value q b same = ap (λ x. (((((start ++ (front ++ gap)) ++ attr) ++ before) ++ 61 ∷ after) ++ q ∷ value) ++ x ∷ []) same ∙ simp (append_assoc, append-nil)

set : (below : List Tree) (top : Tree) (attr value t : List ℕ) (q b : ℕ) → IsValue below top attr value q t → b ≡ q
    → Opening below (record { name = top.name; attrs = top.attrs ++ record { name = attr; value = value } ∷ []; items = top.items }) [] (t ++ b ∷ [])
set [] top attr value t q b is same = absurd is.quoted.equals.name.opening
set (up ∷ ups) top attr value t q b is same =
    let quoted = is.quoted in
    let equal = quoted.equals in
    let name = equal.name in
    let o = name.opening in
    let a : AttrText = record { gap = name.gap; name = attr; before = equal.gap; after = quoted.gap; quote = q; value = is.written } in
    record {
      before = o.before;
      attrs = o.attrs ++ a ∷ [];
      inside = o.inside;
      named = o.named;
      deep = o.deep;
      items = o.items;
      are = are-push [] o.attrs a o.are (record { gap = name.spaces; name = name.named; before = equal.spaces; after = quoted.spaces; quote = is.is_quote; value = is.are }) (ap (has_name attr) (sym o.settings) ∙ equal.new);
      settings = ap₂ (λ xs x. xs ++ record { name = attr; value = x } ∷ []) o.settings is.said ∙ sym (map-append attr_said o.attrs (a ∷ []));
      text = rw (is.text, quoted.text, equal.text, name.text, o.text) (joined o.before (60 ∷ top.name ++ flat_map attr_text o.attrs) name.gap attr equal.gap quoted.gap (flat_map written_text is.written) q b same
          ∙ ap (λ x. o.before ++ (x ++ [])) (append_assoc (60 ∷ top.name) (flat_map attr_text o.attrs) (attr_text a ++ []) ∙ ap (λ x. 60 ∷ top.name ++ x) (sym (flat_map-append attr_text o.attrs (a ∷ [])))));
    }

quote_low : (q : ℕ) → (q == 34 || q == 39) ≡ true → q < 128
quote_low q is = grind (arith, nat_tests)

valued : (below : List Tree) (top : Tree) (attr value t : List ℕ) (q : ℕ) (taken : Taken) (front o : List ℕ) → IsValue below top attr value q front → t ≡ front ++ o → WrittenTaken q taken o
    → Stepped t (value_taken (record { below = below; top = top; attr = attr; value = value; mode = Mode.Value q Part.Fresh }) q taken)
valued below top attr value t q (Taken.Whole c) front o is text said = (
  t,
  [],
  record {
    front = is.front;
    written = is.written ++ said.0 ∷ [];
    quoted = is.quoted;
    is_quote = is.is_quote;
    are = list_all-append (is_written q) is.written (said.0 ∷ []) ∙ both _ _ is.are (both _ _ said.3 refl);
    said = ap₂ (λ x y. x ++ y ∷ []) is.said (sym said.2) ∙ sym (map-append written_char is.written (said.0 ∷ []));
    text = text ∙ ap₂ (λ x y. x ++ y) is.text (sym (append-nil o) ∙ ap (λ x. x ++ []) (sym said.1))
        ∙ append_assoc is.front (q ∷ flat_map written_text is.written) (written_text said.0 ++ [])
        ∙ ap (λ x. is.front ++ q ∷ x) (sym (flat_map-append written_text is.written (said.0 ∷ [])));
  },
  refl,
  sym (append-nil t),
)
valued below top attr value t q (Taken.More part) front o is text said = (front, o, is, said, text)
valued below top attr value t q Taken.Dead front o is text said = tt

fresh_false : (x y : Bool) → (x && y) ≡ false → x ≡ true → y ≡ false
fresh_false true y is _ = is
fresh_false false y _ is = absurd (cc is)

valuing : (q : ℕ) (part : Part) (below : List Tree) (top : Tree) (attr value t : List ℕ) (b : ℕ) → ReachedIn (Mode.Value q part) below top attr value t
    → Stepped (t ++ b ∷ []) (value_step (record { below = below; top = top; attr = attr; value = value; mode = Mode.Value q part }) q part b)
valuing q part below top attr value t b is =
    let v = is.2 in
    by_test (Stepped (t ++ b ∷ [])) (is_fresh part && b == q)
    (λ end. ([], set below top attr value t q b (subst (IsValue below top attr value q) (sym (is.4 ∙ ap (λ x. is.0 ++ x) (fresh-text part is.1 is.3 (left_of (is_fresh part) _ end)) ∙ append-nil is.0)) v) (eqb-true b q (right_of (is_fresh part) _ end)), refl, refl)) (λ not_end.
    by_test (Stepped (t ++ b ∷ [])) (is_fresh part && b == 60) (λ _. tt) (λ not_lt.
    valued below top attr value (t ++ b ∷ []) q (char_taken part b) is.0 (is.1 ++ b ∷ []) v (longer t is.0 is.1 b is.4)
    (char-text q part b is.1 is.3 (quote_low q v.is_quote) (fresh_false (is_fresh part) _ not_lt) (fresh_false (is_fresh part) _ not_end))))

-- ---- what an element holds

-- one more piece
pieced : (below : List Tree) (top : Tree) (front text : List ℕ) (make : Pieces → Pieces) (says : Items → Items) → IsOpen below → Inside below top front
    → ((ps : Pieces) → pieces_text (make ps) ≡ pieces_text ps ++ text) → ((depth : ℕ) (ps : Pieces) → IsPieces depth ps → IsPieces depth (make ps)) → ((ps : Pieces) → items_of (make ps) ≡ says (items_of ps))
    → Inside below (record { name = top.name; attrs = top.attrs; items = says top.items }) (front ++ text)
pieced [] top front text make says opened inside texts lawful said = absurd (cc opened)
pieced (up ∷ ups) top front text make says opened inside texts lawful said =
    let pieces = inside.2 in (
      inside.0,
      inside.1,
      make pieces,
      inside.3,
      inside.4,
      inside.5,
      lawful (suc (length ups)) pieces inside.6,
      ap (λ x. x ++ text) inside.7 ∙ append_assoc inside.0 (tag_text inside.1 ++ 62 ∷ pieces_text pieces) text
          ∙ ap (λ x. inside.0 ++ x) (append_assoc (tag_text inside.1) (62 ∷ pieces_text pieces) text ∙ ap (λ x. tag_text inside.1 ++ 62 ∷ x) (sym (texts pieces))),
      ap (λ (u : Tree). record { name = u.name; attrs = u.attrs; items = says u.items }) inside.8
          ∙ ap (λ x. record { name = inside.1.name; attrs = map attr_said inside.1.attrs; items = x }) (sym (said pieces)),
    )

contained : (below : List Tree) (top : Tree) (attr value t : List ℕ) (taken : Taken) (front o : List ℕ) → IsOpen below → Inside below top front → t ≡ front ++ o → WrittenTaken 60 taken o
    → Stepped t (content_taken (record { below = below; top = top; attr = attr; value = value; mode = Mode.Content Part.Fresh }) taken)
contained below top attr value t (Taken.Whole c) front o opened is text said = (
  opened,
  (
    t,
    [],
    subst (Inside below (record { name = top.name; attrs = top.attrs; items = put top.items c })) (ap (λ x. front ++ x) said.1 ∙ sym text)
        (pieced below top front (written_text said.0) (λ ps. character ps said.0) (λ items. put items c) opened is (λ ps. refl) (λ depth ps lawful. (lawful, said.3)) (λ ps. ap (put (items_of ps)) said.2)),
    refl,
    sym (append-nil t),
  ),
)
contained below top attr value t (Taken.More part) front o opened is text said = (opened, (front, o, is, said, text))
contained below top attr value t Taken.Dead front o opened is text said = tt

content : (part : Part) (below : List Tree) (top : Tree) (attr value t : List ℕ) (b : ℕ) → ReachedIn (Mode.Content part) below top attr value t
    → Stepped (t ++ b ∷ []) (content_step (record { below = below; top = top; attr = attr; value = value; mode = Mode.Content part }) part b)
content part below top attr value t b is =
    let held = is.1 in
    by_test (Stepped (t ++ b ∷ [])) (is_fresh part && b == 60)
    (λ begins. (held.0, held.2, ap₂ (λ x y. x ++ y ∷ []) (held.4 ∙ ap (λ x. held.0 ++ x) (fresh-text part held.1 held.3 (left_of (is_fresh part) _ begins)) ∙ append-nil held.0) (eqb-true b 60 (right_of (is_fresh part) _ begins))))
    (λ other. contained below top attr value (t ++ b ∷ []) (char_taken part b) held.0 (held.1 ++ b ∷ []) is.0 held.2 (longer t held.0 held.1 b held.4)
    (char-text 60 part b held.1 held.3 (omega arith) (fresh_false (is_fresh part) _ other) (fresh_false (is_fresh part) _ other)))

bang : (n : ℕ) (below : List Tree) (top : Tree) (attr value t : List ℕ) (b : ℕ) → ReachedIn (Mode.Bang n) below top attr value t
    → Stepped (t ++ b ∷ []) (bang_step (record { below = below; top = top; attr = attr; value = value; mode = Mode.Bang n }) n b)
bang n below top attr value t b is =
    let opens = codes "[CDATA[" in
    by_test (Stepped (t ++ b ∷ [])) (nat_lt n 7 && b == get_or opens n 0)
    (λ goes. let small : n < 7 = ltb-true n 7 (left_of (nat_lt n 7) _ goes) in
    let text = longer t is.0 (60 ∷ 33 ∷ take n opens) b is.4 ∙ ap (λ x. is.0 ++ (60 ∷ 33 ∷ take n opens ++ x ∷ [])) (eqb-true b _ (right_of (nat_lt n 7) _ goes)) ∙ ap (λ x. is.0 ++ (60 ∷ 33 ∷ x)) (sym (take_more opens n 0 small)) in
    by_test (Stepped (t ++ b ∷ [])) (n == 6)
    (λ last. (
      (
        t ++ b ∷ [],
        [],
        record {
          front = is.0;
          holder = top;
          cs = [];
          inside = is.2;
          opened = is.1;
          allowed = refl;
          within = no_end_of_none;
          few = omega arith;
          last = λ _ _ before same. absurd (omega (arith, ap length same, length-append before (93 ∷ [])));
          part = λ other. absurd (cc other);
          top_is = refl;
          text = text ∙ ap (λ k. is.0 ++ (60 ∷ 33 ∷ take (k + 1) opens)) (eqb-true n 6 last);
        },
        refl,
        sym (append-nil (t ++ b ∷ [])),
      ),
      refl,
    ))
    (λ other. (is.0, is.1, is.2, (let differs = eqb-false n 6 other in omega (arith, differs)), text)))
    (λ _. tt)
  where
    no_end_of_none : IsSection []
    no_end_of_none front back same = absurd (omega (arith, ap length same, length-append (front ++ codes "]]>") back, length-append front (codes "]]>")))

-- ---- CDATA sections

last_of : (y : ℕ) (ys : List ℕ) → (front : List ℕ) × (z : ℕ) × (y ∷ ys ≡ front ++ z ∷ [])
last_of y [] = ([], y, refl)
last_of y (x ∷ xs) = let end = last_of x xs in (y ∷ end.0, end.1, ap (λ l. y ∷ l) end.2)

-- characters that end no section, with one more that doesn't end one
section_push : (xs : List ℕ) (c : ℕ) → IsSection xs → (c ≡ 62 → (before : List ℕ) → xs ≡ before ++ 93 ∷ 93 ∷ [] → ⊥) → IsSection (xs ++ c ∷ [])
section_push xs c within last front [] same =
    let both_same = same_from_push xs (front ++ 93 ∷ 93 ∷ []) c 62 (same ∙ append-nil (front ++ codes "]]>") ∙ sym (append_assoc front (93 ∷ 93 ∷ []) (62 ∷ []))) in
    last both_same.1 front both_same.0
section_push xs c within last front (y ∷ ys) same =
    let end = last_of y ys in
    within front end.0 (same_from_push xs (front ++ codes "]]>" ++ end.0) c end.1 (same ∙ ap (λ x. front ++ codes "]]>" ++ x) end.2 ∙ sym (append_assoc (front ++ codes "]]>") end.0 (end.1 ∷ [])))).0

section_front : (xs ys : List ℕ) → IsSection (xs ++ ys) → IsSection xs
section_front xs ys within front back same = within front (back ++ ys) (ap (λ x. x ++ ys) same ∙ append_assoc (front ++ codes "]]>") back ys)

encoded_run : (k : ℕ) → encode_utf8_all (replicate k 93) ≡ replicate k 93
encoded_run zero = refl
encoded_run (suc k) = ap₂ (λ x y. x ++ y) (encode_ascii 93 (omega arith)) (encoded_run k)

allowed_run : (k : ℕ) → list_all is_allowed (replicate k 93) ≡ true
allowed_run zero = refl
allowed_run (suc k) = allowed_run k

-- the top element of a section with its open `]`, and the octets
flushed : Tree → ℕ → Tree
flushed top k = record { name = top.name; attrs = top.attrs; items = fold put top.items (replicate k 93) }

run_top : (holder top : Tree) (cs ds : List ℕ) → top ≡ record { name = holder.name; attrs = holder.attrs; items = fold put holder.items cs }
    → ◌≡◌ {A = Tree} (record { name = top.name; attrs = top.attrs; items = fold put top.items ds }) (record { name = holder.name; attrs = holder.attrs; items = fold put holder.items (cs ++ ds) })
run_top holder top cs ds is = ap (λ (u : Tree). record { name = u.name; attrs = u.attrs; items = fold put u.items ds }) is
    ∙ ap (λ x. record { name = holder.name; attrs = holder.attrs; items = x }) (sym (fold-append put holder.items cs ds))

run_text : (front cs ds es t : List ℕ) → encode_utf8_all ds ≡ es → t ≡ front ++ (codes "<![CDATA[" ++ encode_utf8_all cs ++ es) → t ≡ front ++ (codes "<![CDATA[" ++ encode_utf8_all (cs ++ ds) ++ [])
run_text front cs ds es t said is = is ∙ ap (λ x. front ++ x) (append_assoc (codes "<![CDATA[") (encode_utf8_all cs) es
    ∙ ap (λ x. codes "<![CDATA[" ++ x) (ap (λ x. encode_utf8_all cs ++ x) (sym said) ∙ sym (encodes-append cs ds)) ∙ sym (append-nil _))

-- a section in the middle of a character
section-part : (below : List Tree) (top : Tree) (k : ℕ) (fresh : Bool) (t : List ℕ) → InSection below top k fresh t → InSection below (record { name = top.name; attrs = top.attrs; items = fold put top.items (replicate k 93) }) 0 false t
section-part below top k fresh t is = record {
  front = is.front;
  holder = is.holder;
  cs = is.cs ++ replicate k 93;
  inside = is.inside;
  opened = is.opened;
  allowed = list_all-append is_allowed is.cs (replicate k 93) ∙ both _ _ is.allowed (allowed_run k);
  within = subst IsSection (sym (append-nil (is.cs ++ replicate k 93))) is.within;
  few = omega arith;
  last = λ other. absurd (cc other);
  part = λ _. refl;
  top_is = run_top is.holder top is.cs (replicate k 93) is.top_is;
  text = run_text is.front is.cs (replicate k 93) (replicate k 93) t (encoded_run k) is.text;
}

-- one more character, which isn't `]` and ends nothing
section-char : (below : List Tree) (top : Tree) (k c : ℕ) (fresh : Bool) (front o : List ℕ) → InSection below top k fresh front → encode_utf8 c ≡ o → is_allowed c ≡ true → (c == 93) ≡ false
    → (c ≡ 62 → (k < 2) × (fresh ≡ true))
    → InSection below (record { name = top.name; attrs = top.attrs; items = put (fold put top.items (replicate k 93)) c }) 0 true (front ++ o)
section-char below top k c fresh front o is said allowed other ends = record {
  front = is.front;
  holder = is.holder;
  cs = is.cs ++ (replicate k 93 ++ c ∷ []);
  inside = is.inside;
  opened = is.opened;
  allowed = list_all-append is_allowed is.cs (replicate k 93 ++ c ∷ []) ∙ both _ _ is.allowed (list_all-append is_allowed (replicate k 93) (c ∷ []) ∙ both _ _ (allowed_run k) (both _ _ allowed refl));
  within = subst IsSection (append_assoc is.cs (replicate k 93) (c ∷ []) ∙ sym (append-nil (is.cs ++ (replicate k 93 ++ c ∷ []))))
      (section_push (is.cs ++ replicate k 93) c is.within (λ c62 before same. is.last (ends c62).1 (ends c62).0 (front_of before) (same ∙ two k (ends c62).0 before)));
  few = omega arith;
  last = λ _ _ before same. eqb-false c 93 other (same_from_push (is.cs ++ replicate k 93) before c 93 (append_assoc is.cs (replicate k 93) (c ∷ []) ∙ sym (append-nil _) ∙ same)).1;
  part = λ _. refl;
  top_is = ap (λ x. record { name = top.name; attrs = top.attrs; items = x }) (sym (fold-append put top.items (replicate k 93) (c ∷ []))) ∙ run_top is.holder top is.cs (replicate k 93 ++ c ∷ []) is.top_is;
  text = run_text is.front is.cs (replicate k 93 ++ c ∷ []) (replicate k 93 ++ o) (front ++ o) (encodes-append (replicate k 93) (c ∷ []) ∙ ap₂ (λ x y. x ++ y) (encoded_run k) (append-nil (encode_utf8 c) ∙ said))
      (ap (λ x. x ++ o) is.text ∙ append_assoc is.front _ o ∙ ap (λ x. is.front ++ x) (append_assoc (codes "<![CDATA[" ++ encode_utf8_all is.cs) (replicate k 93) o));
}
  where
    front_of : List ℕ → List ℕ
    front_of before = if k == 0 then before ++ 93 ∷ [] else before

    two : (k : ℕ) → k < 2 → (before : List ℕ) → before ++ 93 ∷ 93 ∷ [] ≡ (if k == 0 then before ++ 93 ∷ [] else before) ++ replicate (suc k) 93
    two zero small before = sym (append_assoc before (93 ∷ []) (93 ∷ []))
    two (suc zero) small before = refl
    two (suc (suc k)) small before = absurd (omega arith)

closed-on : (below : List Tree) (top : Tree) (attr value front gap t : List ℕ) (mode : Mode) (b : ℕ) → IsOpen below → Inside below top front → list_all is_space gap ≡ true → t ≡ front ++ (60 ∷ 47 ∷ top.name ++ gap)
    → Stepped (t ++ b ∷ []) (closed_step (record { below = below; top = top; attr = attr; value = value; mode = mode }) b)
closed-on [] top attr value front gap t mode b opened inside spaces text = absurd (cc opened)
closed-on (up ∷ ups) top attr value front gap t mode b opened inside spaces text =
    by_test (Stepped (t ++ b ∷ [])) (is_space b)
    (λ space. (front, gap ++ b ∷ [], opened, inside, all_push is_space gap b spaces space, longer t front (60 ∷ 47 ∷ top.name ++ gap) b text ∙ ap (λ x. front ++ (60 ∷ 47 ∷ x)) (append_assoc top.name gap (b ∷ [])))) (λ _.
    by_test (Stepped (t ++ b ∷ [])) (b == 62)
    (λ same. subst (λ (x : Tree). Stepped (t ++ b ∷ []) (ended_in (up ∷ ups) x attr value)) (sym inside.8)
    (attached_in ups up inside.1.name (map attr_said inside.1.attrs) (items_of inside.2) attr value inside.0 (t ++ b ∷ [])
    (tag_text inside.1 ++ 62 ∷ pieces_text inside.2 ++ 60 ∷ 47 ∷ inside.1.name ++ gap ++ 62 ∷ []) (λ ps. around ps inside.1 inside.2 gap) inside.3
    (longer_by t front (60 ∷ 47 ∷ top.name ++ gap) b 62 text (eqb-true b 62 same) ∙ ap₂ (λ x (y : Tree). x ++ (60 ∷ 47 ∷ y.name ++ gap ++ 62 ∷ [])) inside.7 inside.8 ∙ regroup inside.0 (tag_text inside.1) (pieces_text inside.2) inside.1.name gap)
    (λ ps. regroup-after (pieces_text ps) (tag_text inside.1) (62 ∷ pieces_text inside.2) (60 ∷ 47 ∷ inside.1.name) gap (62 ∷ []))
    (λ ps lawful. (lawful, inside.4, inside.5, inside.6, spaces)) (λ ps. refl) refl))
    (λ _. tt))
  where
    regroup : (a tag inner name gap : List ℕ) → (a ++ (tag ++ 62 ∷ inner)) ++ (60 ∷ 47 ∷ name ++ gap ++ 62 ∷ []) ≡ a ++ (tag ++ 62 ∷ inner ++ 60 ∷ 47 ∷ name ++ gap ++ 62 ∷ [])
    regroup a tag inner name gap = simp append_assoc

    regroup-after : (a b c d e f : List ℕ) → a ++ b ++ c ++ d ++ e ++ f ≡ a ++ (b ++ c ++ d ++ e ++ f)
    regroup-after a b c d e f = simp append_assoc

closing : (n : ℕ) (below : List Tree) (top : Tree) (attr value t : List ℕ) (b : ℕ) → ReachedIn (Mode.Closing n) below top attr value t
    → Stepped (t ++ b ∷ []) (closing_step (record { below = below; top = top; attr = attr; value = value; mode = Mode.Closing n }) n b)
closing n below top attr value t b is =
    by_test (Stepped (t ++ b ∷ [])) (nat_lt n (length top.name))
    (λ more. let small : n < length top.name = ltb-true n (length top.name) more in
    by_test (Stepped (t ++ b ∷ [])) (b == get_or top.name n 0)
    (λ same. (is.0, is.1, is.2, omega arith, longer t is.0 (60 ∷ 47 ∷ take n top.name) b is.4 ∙ ap (λ x. is.0 ++ (60 ∷ 47 ∷ take n top.name ++ x ∷ [])) (eqb-true b _ same) ∙ ap (λ x. is.0 ++ (60 ∷ 47 ∷ x)) (sym (take_more top.name n 0 small)))) (λ _. tt))
    (λ whole. closed-on below top attr value is.0 [] t (Mode.Closing n) b is.1 is.2 refl
    (is.4 ∙ ap (λ x. is.0 ++ (60 ∷ 47 ∷ x)) (take_all n top.name (ltb-false n (length top.name) whole)) ∙ ap (λ x. is.0 ++ (60 ∷ 47 ∷ x)) (sym (append-nil top.name))))

closed : (below : List Tree) (top : Tree) (attr value t : List ℕ) (b : ℕ) → ReachedIn Mode.Closed below top attr value t
    → Stepped (t ++ b ∷ []) (closed_step (record { below = below; top = top; attr = attr; value = value; mode = Mode.Closed }) b)
closed below top attr value t b is = closed-on below top attr value is.0 is.1 t Mode.Closed b is.2 is.3 is.4 is.5

trail : (below : List Tree) (top : Tree) (attr value t : List ℕ) (b : ℕ) → ReachedIn Mode.Trail below top attr value t
    → Stepped (t ++ b ∷ []) (step_in Mode.Trail (record { below = below; top = top; attr = attr; value = value; mode = Mode.Trail }) b)
trail below top attr value t b is =
    let body = is.2 in
    by_test (Stepped (t ++ b ∷ [])) (is_space b)
    (λ space. (
      is.0,
      is.1,
      record {
        before = body.before;
        root = body.root;
        after = body.after ++ b ∷ [];
        text = longer t (body.before ++ pieces_text body.root) body.after b body.text;
        spaces_before = body.spaces_before;
        spaces_after = all_push is_space body.after b body.spaces_after space;
        one = body.one;
        pieces = body.pieces;
        value = body.value;
      },
      is.3,
    ))
    (λ _. tt)

one_more : (k : ℕ) (cs : List ℕ) → (cs ++ replicate k 93) ++ 93 ∷ [] ≡ cs ++ replicate (suc k) 93
one_more k cs =
    let next : k + 1 ≡ suc k = omega arith in
    append_assoc cs (replicate k 93) (93 ∷ []) ∙ ap (λ x. cs ++ x) (replicate_more k 93 ∙ ap (λ n. replicate n 93) next)

-- one more `]`
dash-more : (below : List Tree) (top : Tree) (k : ℕ) (fresh : Bool) (t : List ℕ) → InSection below top k fresh t → fresh ≡ true → k < 2 → InSection below top (suc k) true (t ++ 93 ∷ [])
dash-more below top k fresh t is are small = record {
  front = is.front;
  holder = is.holder;
  cs = is.cs;
  inside = is.inside;
  opened = is.opened;
  allowed = is.allowed;
  within = subst IsSection (one_more k is.cs) (section_push (is.cs ++ replicate k 93) 93 is.within (λ same. absurd (omega (arith, same))));
  few = omega arith;
  last = λ _ less before same. is.last are small before (same_from_push _ _ 93 93 (one_more k is.cs ∙ same ∙ sym (one_more (suc k) before))).0;
  part = λ other. absurd (cc other);
  top_is = is.top_is;
  text = ap (λ x. x ++ 93 ∷ []) is.text ∙ append_assoc is.front _ (93 ∷ []) ∙ ap (λ x. is.front ++ x) (one_more k (codes "<![CDATA[" ++ encode_utf8_all is.cs));
}

-- the first of three `]` is a character
dash-two : (below : List Tree) (top : Tree) (k : ℕ) (fresh : Bool) (t : List ℕ) → InSection below top k fresh t → 2 ≤ k
    → InSection below (record { name = top.name; attrs = top.attrs; items = put top.items 93 }) 2 true (t ++ 93 ∷ [])
dash-two below top k fresh t is large =
    let two : k ≡ 2 = (let few = is.few in omega arith) in
    record {
      front = is.front;
      holder = is.holder;
      cs = is.cs ++ 93 ∷ [];
      inside = is.inside;
      opened = is.opened;
      allowed = all_push is_allowed is.cs 93 is.allowed refl;
      within = subst IsSection (ap (λ n. (is.cs ++ replicate n 93) ++ 93 ∷ []) two ∙ three is.cs) (section_push (is.cs ++ replicate k 93) 93 is.within (λ same. absurd (omega (arith, same))));
      few = omega arith;
      last = λ _ less. absurd (omega arith);
      part = λ other. absurd (cc other);
      top_is = run_top is.holder top is.cs (93 ∷ []) is.top_is;
      text = ap (λ x. x ++ 93 ∷ []) is.text ∙ ap (λ n. (is.front ++ (codes "<![CDATA[" ++ encode_utf8_all is.cs ++ replicate n 93)) ++ 93 ∷ []) two ∙ append_assoc is.front _ (93 ∷ []) ∙ ap (λ x. is.front ++ x) (three (codes "<![CDATA[" ++ encode_utf8_all is.cs)
          ∙ ap (λ x. x ++ 93 ∷ 93 ∷ []) (append_assoc (codes "<![CDATA[") (encode_utf8_all is.cs) (93 ∷ []) ∙ ap (λ x. codes "<![CDATA[" ++ x) (ap (λ x. encode_utf8_all is.cs ++ x) (sym (encoded_run 1)) ∙ sym (encodes-append is.cs (93 ∷ [])))));
    }
  where
    three : (cs : List ℕ) → (cs ++ 93 ∷ 93 ∷ []) ++ 93 ∷ [] ≡ (cs ++ 93 ∷ []) ++ 93 ∷ 93 ∷ []
    three cs = simp append_assoc

-- the section ends
section-end : (below : List Tree) (top : Tree) (k : ℕ) (fresh : Bool) (t : List ℕ) → InSection below top k fresh t → k ≡ 2 → Inside below top (t ++ 62 ∷ [])
section-end below top k fresh t is two =
    let cs = is.cs in
    let whole = codes "<![CDATA[" ++ encode_utf8_all cs ++ codes "]]>" in
    let text : t ++ 62 ∷ [] ≡ is.front ++ whole = ap (λ x. x ++ 62 ∷ []) is.text ∙ ap (λ n. (is.front ++ (codes "<![CDATA[" ++ encode_utf8_all cs ++ replicate n 93)) ++ 62 ∷ []) two ∙ regroup is.front (codes "<![CDATA[" ++ encode_utf8_all cs) in
    let held = pieced below is.holder is.front whole (λ ps. section ps cs) (λ items. fold put items cs) is.opened is.inside
    (λ ps. regroup-after (pieces_text ps) (codes "<![CDATA[") (encode_utf8_all cs) (codes "]]>")) (λ depth ps lawful. (lawful, is.allowed, section_front cs (replicate k 93) is.within)) (λ ps. refl) in
    subst₂ (λ (x : Tree) (y : List ℕ). Inside below x y) (sym is.top_is) (sym text) held
  where
    regroup : (a b : List ℕ) → (a ++ (b ++ 93 ∷ 93 ∷ [])) ++ 62 ∷ [] ≡ a ++ (b ++ 93 ∷ 93 ∷ 62 ∷ [])
    regroup a b = simp append_assoc

    regroup-after : (a b c d : List ℕ) → a ++ b ++ c ++ d ≡ a ++ (b ++ c ++ d)
    regroup-after a b c d = simp append_assoc

-- what an octet of a character does to a section
sectioned : (k : ℕ) (part : Part) (below : List Tree) (top : Tree) (attr value t front o : List ℕ) (b : ℕ) (taken : Taken) → InSection below top k (is_fresh part) front → PartText part o → (is_fresh part ≡ true → (b == 93) ≡ false)
    → (is_fresh part ≡ true → (b == 62) ≡ true → k < 2) → t ≡ front ++ (o ++ b ∷ []) → PlainTaken taken (o ++ b ∷ [])
    → Stepped t (section_taken (record { below = below; top = record { name = top.name; attrs = top.attrs; items = fold put top.items (replicate k 93) }; attr = attr; value = value; mode = Mode.Section k part }) taken)
sectioned k part below top attr value t front o b (Taken.Whole c) is held other ends text plain_is = (
  (
    t,
    [],
    subst (InSection below (record { name = top.name; attrs = top.attrs; items = put (fold put top.items (replicate k 93)) c }) 0 true) (sym text)
        (section-char below top k c (is_fresh part) front (o ++ b ∷ []) is plain_is.text plain_is.allowed (plain-octet part b c o held plain_is 93 (omega arith) other) (λ c62. few (is_fresh part) refl c62)),
    refl,
    sym (append-nil t),
  ),
  refl,
)
  where
    few : (f : Bool) → is_fresh part ≡ f → c ≡ 62 → (k < 2) × (is_fresh part ≡ true)
    few false f c62 = absurd (eqb-false c 62 (plain-octet part b c o held plain_is 62 (omega arith) (λ fresh. absurd (true≢false (sym fresh ∙ f)))) c62)
    few true f c62 = (by_octet (b == 62) refl, f)
      where
        by_octet : (x : Bool) → (b == 62) ≡ x → k < 2
        by_octet true same = ends f same
        by_octet false differs = absurd (eqb-false c 62 (plain-octet part b c o held plain_is 62 (omega arith) (λ _. differs)) c62)
sectioned k part below top attr value t front o b (Taken.More after) is held other ends text more =
    ((front, o ++ b ∷ [], subst (λ (f : Bool). InSection below (record { name = top.name; attrs = top.attrs; items = fold put top.items (replicate k 93) }) 0 f front) (sym more.2) (section-part below top k (is_fresh part) front is), more.0, text), more.1)
sectioned k part below top attr value t front o b Taken.Dead is held other ends text dead = tt

sectioning : (k : ℕ) (part : Part) (below : List Tree) (top : Tree) (attr value t : List ℕ) (b : ℕ) → ReachedIn (Mode.Section k part) below top attr value t
    → Stepped (t ++ b ∷ []) (section_step (record { below = below; top = top; attr = attr; value = value; mode = Mode.Section k part }) k part b)
sectioning k part below top attr value t b is =
    let held = is.0 in
    let there = λ (fresh : is_fresh part ≡ true). held.4 ∙ ap (λ x. held.0 ++ x) (fresh-text part held.1 held.3 fresh) ∙ append-nil held.0 in
    by_test (Stepped (t ++ b ∷ [])) (is_fresh part && b == 93)
    (λ dash. let fresh = left_of (is_fresh part) _ dash in
    let text = ap₂ (λ x y. x ++ y ∷ []) (there fresh) (eqb-true b 93 (right_of (is_fresh part) _ dash)) in
    by_test (λ (x : State). Reached x (t ++ b ∷ [])) (nat_lt k 2)
    (λ less. ((t ++ b ∷ [], [], subst₂ (λ n (x : List ℕ). InSection below top n true x) (omega arith) (sym text) (dash-more below top k (is_fresh part) held.0 held.2 fresh (ltb-true k 2 less)), refl, sym (append-nil _)), refl))
    (λ more. ((t ++ b ∷ [], [], subst (InSection below (record { name = top.name; attrs = top.attrs; items = put top.items 93 }) 2 true) (sym text) (dash-two below top k (is_fresh part) held.0 held.2 (ltb-false k 2 more)), refl, sym (append-nil _)), refl))) (λ no_dash.
    by_test (Stepped (t ++ b ∷ [])) (is_fresh part && b == 62 && k == 2)
    (λ end. let two_hold = left_of (is_fresh part && b == 62) _ end in
    let text = ap₂ (λ x y. x ++ y ∷ []) (there (left_of (is_fresh part) _ two_hold)) (eqb-true b 62 (right_of (is_fresh part) _ two_hold)) in
    (held.2.opened, (t ++ b ∷ [], [], subst (Inside below top) (sym text) (section-end below top k (is_fresh part) held.0 held.2 (eqb-true k 2 (right_of (is_fresh part && b == 62) _ end))), refl, sym (append-nil _)))) (λ no_end.
    sectioned k part below top attr value (t ++ b ∷ []) held.0 held.1 b (taken_after part b) held.2 held.3 (fresh_false (is_fresh part) _ no_dash)
    (λ fresh same. let few = held.2.few in let differs = eqb-false k 2 (fresh_false (is_fresh part && b == 62) _ no_end (both _ _ fresh same)) in omega (arith, differs))
    (longer t held.0 held.1 b held.4) (plain-text part b held.1 held.3 is.1)))

-- ---- any step

stepped : (mode : Mode) (below : List Tree) (top : Tree) (attr value t : List ℕ) (b : ℕ) → ReachedIn mode below top attr value t
    → Stepped (t ++ b ∷ []) (step_in mode (record { below = below; top = top; attr = attr; value = value; mode = mode }) b)
stepped Mode.Lead below top attr value t b is = lead below top attr value t b is
stepped Mode.Begun below top attr value t b is = begun below top attr value t b is
stepped Mode.Naming below top attr value t b is = naming below top attr value t b is
stepped (Mode.Tag spaced) below top attr value t b is = tag spaced below top attr value t (Mode.Tag spaced) b is
stepped Mode.Slash below top attr value t b is = slash below top attr value t b is
stepped Mode.Attr below top attr value t b is = attribute below top attr value t b is
stepped Mode.Equals below top attr value t b is = equals below top attr value t b is
stepped Mode.Quote below top attr value t b is = quote below top attr value t b is
stepped (Mode.Value q part) below top attr value t b is = valuing q part below top attr value t b is
stepped (Mode.Content part) below top attr value t b is = content part below top attr value t b is
stepped (Mode.Bang n) below top attr value t b is = bang n below top attr value t b is
stepped (Mode.Section k part) below top attr value t b is = sectioning k part below top attr value t b is
stepped (Mode.Closing n) below top attr value t b is = closing n below top attr value t b is
stepped Mode.Closed below top attr value t b is = closed below top attr value t b is
stepped Mode.Trail below top attr value t b is = trail below top attr value t b is

pub step-reached : (s : State) (t : List ℕ) (b : ℕ) → Reached s t → Stepped (t ++ b ∷ []) (step s b)
step-reached s t b is = stepped s.mode s.below s.top s.attr s.value t b is

-- no octet follows where none can
pub run-none : (more : List ℕ) → run None more ≡ None
run-none [] = refl
run-none (c ∷ cs) = run-none cs

-- what octets lead to says them
pub run-reached : (s : State) (t more : List ℕ) → Reached s t → Stepped (t ++ more) (run (Some s) more)
run-reached s t [] is = subst (λ (x : List ℕ). Reached s x) (sym (append-nil t)) is
run-reached s t (b ∷ more) is =
    subst (λ (x : List ℕ). Stepped x (run (step s b) more)) (append_assoc t (b ∷ []) more) (further (λ x. run-reached x (t ++ b ∷ []) more) (step s b) (step-reached s t b is))
  where
    further : ((x : State) → Reached x (t ++ b ∷ []) → Stepped ((t ++ b ∷ []) ++ more) (run (Some x) more)) → (o : Option State) → Stepped (t ++ b ∷ []) o → Stepped ((t ++ b ∷ []) ++ more) (run o more)
    further next None is = subst (Stepped ((t ++ b ∷ []) ++ more)) (sym (run-none more)) tt
    further next (Some x) is = next x is

pub start-reached : Reached start []
start-reached = (refl, (refl, refl))

pub read-reached : (t : List ℕ) → Stepped t (run (Some start) t)
read-reached t = run-reached start [] t start-reached
