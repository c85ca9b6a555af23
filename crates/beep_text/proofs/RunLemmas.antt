-- What the machine does with a whole text: it reads each piece, and gives its value.
use Rattle.std.proofs.Common.{◌≡◌, ℕ, zero, suc, ◌+◌, ◌<◌, ◌≤◌, ◌⊎◌, Bool, true, false, ◌&&◌, ◌||◌, not, ◌==◌, nat_lt, if◌then◌else◌, List, [], ◌∷◌, ◌++◌, length, map, flat_map, fold, replicate, get_or, codes, encode_utf8, encode_utf8_all, inl, inr, Option, Some, None, refl, sym, ap, ap₂, subst, true≢false, ◌∙◌, append_assoc, append-nil, arith, length-append, eqb-true, ne_eqb, ltb-true, ltb-false, leb-true, le-ltb, lt-ltb, eq-eqb, ⊎_elim}
use Rattle.std.specs.List.{list_all, list_any, range_with_len}
use Rattle.std.proofs.lemmas.List.Folds.{list_any_at}
use Rattle.std.proofs.lemmas.List.{get_or_at}
use Rattle.std.proofs.lemmas.List.FromFn.{get_or-range_with_len, length-range_with_len}
use Rattle.std.proofs.lemmas.List.Sums.{fold-append}
use Rattle.std.proofs.lemmas.Bool.Decides.{nat_tests}
use Rattle.std.proofs.lemmas.Str.{encode_ascii}
use Rattle.beep_text.specs.declared.attr.Attr.{Attr}
use Rattle.beep_text.specs.declared.mode.Part.{Part}
use Rattle.beep_text.specs.declared.mode.Mode.{Mode}
use Rattle.beep_chars.specs.declared.limits.TheConstants.{MAX_NAME}
use Rattle.beep_text.specs.declared.limits.TheConstants.{MAX_NESTED}
use Rattle.beep_chars.specs.Characters.{is_space, is_allowed, is_name, is_begun_name, is_name_start, is_name_char}
use Rattle.beep_text.specs.Lawful.{has_name}
use Rattle.beep_text.specs.Tree.{Items, Tree, nothing, with_child}
use Rattle.beep_text.specs.Elements.{Written, plain, named, decimal, hexadecimal, written_text, written_char, is_written, AttrText, attr_text, attr_said, IsAttrText, AreAttrTexts, Tag, tag_text, IsTag, Pieces, no_pieces, character, section, alone, around, pieces_text, items_of, put, IsSection, IsPieces, IsBody, is_one}
use Rattle.beep_text.specs.Machine.{State, start, step, run, closed_step, taken_after, char_taken, is_fresh, is_nil, has_room, ended_in}
use Rattle.beep_text.proofs.ElementLemmas.{left_of, right_of, both, is_false, not-false}
use Rattle.beep_text.proofs.WrittenLemmas.{by_test}
use Rattle.beep_text.proofs.CharLemmas.{encode_two, encode_three, encode_four}
use Rattle.beep_text.proofs.ReadingLemmas.{Reading, last, more, reads_written, reads_section}

-- ---- runs

abbrev pub st : List Tree → Tree → List ℕ → List ℕ → Mode → State
st below top attr value mode = record { below = below; top = top; attr = attr; value = value; mode = mode }

abbrev pub tree : List ℕ → List Attr → Items → Tree
tree name attrs items = record { name = name; attrs = attrs; items = items }

pub run-append : (o : Option State) (xs ys : List ℕ) → run o (xs ++ ys) ≡ run (run o xs) ys
run-append o [] ys = refl
run-append None (x ∷ xs) ys = run-append None xs ys
run-append (Some s) (x ∷ xs) ys = run-append (step s x) xs ys

abbrev pub Goes : State → List ℕ → State → Type 0
Goes s xs s' = run (Some s) xs ≡ Some s'

pub goes_on : (s s' : State) (o : Option State) (xs ys : List ℕ) → Goes s xs s' → run (Some s') ys ≡ o → run (Some s) (xs ++ ys) ≡ o
goes_on s s' o xs ys first second = run-append (Some s) xs ys ∙ ap (λ x. run x ys) first ∙ second

-- the octets lead there, whatever attribute was read last
abbrev pub Leads : State → List ℕ → List Tree → Tree → Mode → Type 0
Leads s xs below top mode = (attr value : List ℕ) × Goes s xs (st below top attr value mode)

pub leads_on : (s : State) (below below2 : List Tree) (top top2 : Tree) (mode mode2 : Mode) (xs ys : List ℕ) → Leads s xs below top mode
    → ((attr value : List ℕ) → Leads (st below top attr value mode) ys below2 top2 mode2) → Leads s (xs ++ ys) below2 top2 mode2
leads_on s below below2 top top2 mode mode2 xs ys first next =
    let second = next first.0 first.1 in
    (second.0, second.1, goes_on s (st below top first.0 first.1 mode) (Some (st below2 top2 second.0 second.1 mode2)) xs ys first.2 second.2)

-- ---- characters

-- the first octet is another
abbrev pub First : ℕ → List ℕ → Type 0
First x [] = Unit {0}
First x (b ∷ bs) = (b == x) ≡ false

and_false : (x y : Bool) → (x ≡ true → y ≡ false) → (x && y) ≡ false
and_false true y next = next refl
and_false false y next = refl

pub value-char : (q : ℕ) (below : List Tree) (top : Tree) (attr value : List ℕ) (part : Part) (bs : List ℕ) (c : ℕ) → Reading char_taken part bs c → (is_fresh part ≡ true → First q bs × First 60 bs)
    → Goes (st below top attr value (Mode.Value q part)) bs (st below top attr (value ++ c ∷ []) (Mode.Value q Part.Fresh))
value-char q below top attr value part bs c (last b _ taken) first =
    rw (and_false (is_fresh part) (b == q) (λ f. (first f).0), and_false (is_fresh part) (b == 60) (λ f. (first f).1), taken) refl
value-char q below top attr value part bs c (more b _ rest next taken other reading) first =
    rw (and_false (is_fresh part) (b == q) (λ f. (first f).0), and_false (is_fresh part) (b == 60) (λ f. (first f).1), taken)
    (value-char q below top attr value next rest c reading (λ f. absurd (cc f)))

pub content-char : (below : List Tree) (name : List ℕ) (attrs : List Attr) (items : Items) (attr value : List ℕ) (part : Part) (bs : List ℕ) (c : ℕ) → Reading char_taken part bs c → (is_fresh part ≡ true → First 60 bs)
    → Goes (st below (tree name attrs items) attr value (Mode.Content part)) bs (st below (tree name attrs (put items c)) attr value (Mode.Content Part.Fresh))
content-char below name attrs items attr value part bs c (last b _ taken) first = rw (and_false (is_fresh part) (b == 60) first, taken) refl
content-char below name attrs items attr value part bs c (more b _ rest next taken other reading) first =
    rw (and_false (is_fresh part) (b == 60) first, taken) (content-char below name attrs items attr value next rest c reading (λ f. absurd (cc f)))

-- the first octet of a character above one octet
first_encode : (x c : ℕ) → x < 128 → (c == x) ≡ false → First x (encode_utf8 c)
first_encode x c low other = elim (nat_lt c 128) as (λ t. nat_lt c 128 ≡ t → First x (encode_utf8 c)) [
  | true ↦ λ is. subst (First x) (sym (encode_ascii c (ltb-true c 128 is))) other
  | false ↦ λ is. elim (nat_lt c 2048) as (λ t. nat_lt c 2048 ≡ t → First x (encode_utf8 c)) [
    | true ↦ λ is2. subst (First x) (sym (encode_two c (ltb-false c 128 is) (ltb-true c 2048 is2))) (ne_eqb _ _ (λ same. absurd (omega (arith, same, ltb-false c 128 is))))
    | false ↦ λ is2. elim (nat_lt c 65536) as (λ t. nat_lt c 65536 ≡ t → First x (encode_utf8 c)) [
      | true ↦ λ is3. subst (First x) (sym (encode_three c (ltb-false c 2048 is2) (ltb-true c 65536 is3))) (ne_eqb _ _ (λ same. absurd (omega (arith, same))))
      | false ↦ λ is3. subst (First x) (sym (encode_four c (ltb-false c 65536 is3))) (ne_eqb _ _ (λ same. absurd (omega (arith, same))))
    ] refl
  ] refl
] refl

first_written : (x stop : ℕ) (w : Written) → x < 128 → (38 == x) ≡ false → ((c : ℕ) → is_written stop (plain c) ≡ true → (c == x) ≡ false) → is_written stop w ≡ true → First x (written_text w)
first_written x stop (plain c) low amp apart is = first_encode x c low (apart c is)
first_written x stop (named c) low amp apart is = amp
first_written x stop (decimal digits) low amp apart is = amp
first_written x stop (hexadecimal digits) low amp apart is = amp

plain_stop : (stop c : ℕ) → is_written stop (plain c) ≡ true → (c == stop) ≡ false
plain_stop stop c is = is_false _ (right_of (is_allowed c && not (c == 38) && not (c == 60)) _ is)

plain_lt : (stop c : ℕ) → is_written stop (plain c) ≡ true → (c == 60) ≡ false
plain_lt stop c is = is_false _ (right_of (is_allowed c && not (c == 38)) _ (left_of _ (not (c == stop)) is))

-- the characters of a value
value-chars : (q : ℕ) (below : List Tree) (top : Tree) (attr value : List ℕ) (ws : List Written) → q < 128 → (38 == q) ≡ false → list_all (is_written q) ws ≡ true
    → Goes (st below top attr value (Mode.Value q Part.Fresh)) (flat_map written_text ws) (st below top attr (value ++ map written_char ws) (Mode.Value q Part.Fresh))
value-chars q below top attr value [] low amp are = ap (λ x. Some (st below top attr x (Mode.Value q Part.Fresh))) (sym (append-nil value))
value-chars q below top attr value (w ∷ ws) low amp are =
    let is = left_of (is_written q w) _ are in
    goes_on _ (st below top attr (value ++ written_char w ∷ []) (Mode.Value q Part.Fresh)) _ (written_text w) (flat_map written_text ws)
    (value-char q below top attr value Part.Fresh (written_text w) (written_char w) (reads_written q w is) (λ _. (first_written q q w low amp (plain_stop q) is, first_written 60 q w (omega arith) refl (plain_lt q) is)))
    (value-chars q below top attr (value ++ written_char w ∷ []) ws low amp (right_of (is_written q w) _ are)
    ∙ ap (λ x. Some (st below top attr x (Mode.Value q Part.Fresh))) (append_assoc value (written_char w ∷ []) (map written_char ws)))

-- ---- CDATA sections

three_false : (x y z : Bool) → (x ≡ true → z ≡ true → y ≡ false) → (x && y && z) ≡ false
three_false true true true next = absurd (cc (next refl refl))
three_false true true false next = refl
three_false true false z next = refl
three_false false y z next = refl

no_end : (k : ℕ) (part : Part) (b : ℕ) → (is_fresh part ≡ true → k ≡ 2 → (b == 62) ≡ false) → (is_fresh part && b == 62 && k == 2) ≡ false
no_end k part b ends = three_false (is_fresh part) (b == 62) (k == 2) (λ f e. ends f (eqb-true k 2 e))

pub section-char : (k : ℕ) (below : List Tree) (name : List ℕ) (attrs : List Attr) (items : Items) (attr value : List ℕ) (part : Part) (bs : List ℕ) (c : ℕ) → Reading taken_after part bs c
    → (is_fresh part ≡ true → First 93 bs) → (is_fresh part ≡ true → k ≡ 2 → First 62 bs) → (is_fresh part ≡ false → k ≡ 0)
    → Goes (st below (tree name attrs items) attr value (Mode.Section k part)) bs (st below (tree name attrs (put (fold put items (replicate k 93)) c)) attr value (Mode.Section 0 Part.Fresh))
section-char k below name attrs items attr value part bs c (last b _ taken) first ends none =
    rw (and_false (is_fresh part) (b == 93) first, no_end k part b ends, taken) refl
section-char k below name attrs items attr value part bs c (more b _ rest next taken other reading) first ends none =
    rw (and_false (is_fresh part) (b == 93) first, no_end k part b ends, taken) (section-char 0 below name attrs (fold put items (replicate k 93)) attr value next rest c reading (λ f. absurd (true≢false (sym f ∙ other))) (λ f _. absurd (true≢false (sym f ∙ other))) (λ _. refl))

-- what follows the characters of a section
section_rest : (xs ys : List ℕ) → IsSection (xs ++ ys) → IsSection ys
section_rest xs ys within front back same = within (xs ++ front) back (ap (λ x. xs ++ x) same ∙ sym (regroup xs front (codes "]]>") back))
  where
    regroup : (a b c d : List ℕ) → a ++ b ++ c ++ d ≡ a ++ (b ++ c ++ d)
    regroup a b c d = simp append_assoc

-- a section up to its end
abbrev pub SectionGoes : ℕ → List ℕ → Items → List Tree → List ℕ → List Attr → List ℕ → List ℕ → Type 0
SectionGoes k cs items below name attrs attr value =
    Goes (st below (tree name attrs items) attr value (Mode.Section k Part.Fresh)) (encode_utf8_all cs ++ codes "]]>") (st below (tree name attrs (fold put items (replicate k 93 ++ cs))) attr value (Mode.Content Part.Fresh))

section-dash : (k c : ℕ) (cs : List ℕ) (below : List Tree) (name : List ℕ) (attrs : List Attr) (items : Items) (attr value : List ℕ) → k ≤ 2 → c ≡ 93 → IsSection (replicate k 93 ++ c ∷ cs)
    → ((k : ℕ) (items : Items) → k ≤ 2 → IsSection (replicate k 93 ++ cs) → SectionGoes k cs items below name attrs attr value) → SectionGoes k (c ∷ cs) items below name attrs attr value
section-dash k c cs below name attrs items attr value few is within next =
    subst (λ x. SectionGoes k (x ∷ cs) items below name attrs attr value) (sym is)
    (subst (λ (x : List ℕ). Goes (st below (tree name attrs items) attr value (Mode.Section k Part.Fresh)) ((x ++ encode_utf8_all cs) ++ codes "]]>") (st below (tree name attrs (fold put items (replicate k 93 ++ 93 ∷ cs))) attr value (Mode.Content Part.Fresh)))
    (sym (encode_ascii 93 (omega arith))) (by_count k few (subst (λ x. IsSection (replicate k 93 ++ x ∷ cs)) is within)))
  where
    by_count : (k : ℕ) → k ≤ 2 → IsSection (replicate k 93 ++ 93 ∷ cs)
        → Goes (st below (tree name attrs items) attr value (Mode.Section k Part.Fresh)) (93 ∷ encode_utf8_all cs ++ codes "]]>") (st below (tree name attrs (fold put items (replicate k 93 ++ 93 ∷ cs))) attr value (Mode.Content Part.Fresh))
    by_count zero few within = next 1 items (omega arith) within
    by_count (suc zero) few within = next 2 items (omega arith) within
    by_count (suc (suc zero)) few within = next 2 (put items 93) (omega arith) (section_rest (93 ∷ []) (93 ∷ 93 ∷ cs) within)
    by_count (suc (suc (suc k))) few within = absurd (omega arith)

section-other : (k c : ℕ) (cs : List ℕ) (below : List Tree) (name : List ℕ) (attrs : List Attr) (items : Items) (attr value : List ℕ) → is_allowed c ≡ true → (c == 93) ≡ false → IsSection (replicate k 93 ++ c ∷ cs)
    → ((items : Items) → IsSection cs → SectionGoes 0 cs items below name attrs attr value) → SectionGoes k (c ∷ cs) items below name attrs attr value
section-other k c cs below name attrs items attr value allowed other within next =
    subst (λ (x : List ℕ). Goes (st below (tree name attrs items) attr value (Mode.Section k Part.Fresh)) x (st below (tree name attrs (fold put items (replicate k 93 ++ c ∷ cs))) attr value (Mode.Content Part.Fresh)))
    (sym (append_assoc (encode_utf8 c) (encode_utf8_all cs) (codes "]]>")))
    (goes_on _ (st below (tree name attrs (put (fold put items (replicate k 93)) c)) attr value (Mode.Section 0 Part.Fresh)) _ (encode_utf8 c) (encode_utf8_all cs ++ codes "]]>")
    (section-char k below name attrs items attr value Part.Fresh (encode_utf8 c) c (reads_section c allowed) (λ _. first_encode 93 c (omega arith) other) (λ _ two. first_encode 62 c (omega arith) (ne_eqb c 62 (λ same. ends two same))) (λ f. absurd (cc f)))
    (next (put (fold put items (replicate k 93)) c) (section_rest (c ∷ []) cs (section_rest (replicate k 93) (c ∷ cs) within))
    ∙ ap (λ x. Some (st below (tree name attrs x) attr value (Mode.Content Part.Fresh))) (sym (fold-append put items (replicate k 93) (c ∷ cs)))))
  where
    ends : k ≡ 2 → c ≡ 62 → ⊥
    ends two same = within [] cs (ap₂ (λ n x. replicate n 93 ++ x ∷ cs) two same)

pub section-run : (k : ℕ) (cs : List ℕ) (below : List Tree) (name : List ℕ) (attrs : List Attr) (items : Items) (attr value : List ℕ) → k ≤ 2 → list_all is_allowed cs ≡ true → IsSection (replicate k 93 ++ cs)
    → SectionGoes k cs items below name attrs attr value
section-run zero [] below name attrs items attr value few are within = refl
section-run (suc zero) [] below name attrs items attr value few are within = refl
section-run (suc (suc zero)) [] below name attrs items attr value few are within = refl
section-run (suc (suc (suc k))) [] below name attrs items attr value few are within = absurd (omega arith)
section-run k (c ∷ cs) below name attrs items attr value few are within =
    let rest = right_of (is_allowed c) _ are in
    elim (c == 93) as (λ x. (c == 93) ≡ x → SectionGoes k (c ∷ cs) items below name attrs attr value) [
      | true ↦ λ is. section-dash k c cs below name attrs items attr value few (eqb-true c 93 is) within (λ j new less inner. section-run j cs below name attrs new attr value less rest inner)
      | false ↦ λ is. section-other k c cs below name attrs items attr value (left_of (is_allowed c) _ are) is within (λ new inner. section-run 0 cs below name attrs new attr value (omega arith) rest inner)
    ] refl

-- ---- white space and names

spaces_stay : (s : State) → ((b : ℕ) → is_space b ≡ true → step s b ≡ Some s) → (gap : List ℕ) → list_all is_space gap ≡ true → Goes s gap s
spaces_stay s stays [] are = refl
spaces_stay s stays (b ∷ gap) are =
    ap (λ o. run o gap) (stays b (left_of (is_space b) _ are)) ∙ spaces_stay s stays gap (right_of (is_space b) _ are)

space_apart : (b : ℕ) → is_space b ≡ true → is_name_char b ≡ false
space_apart b is = grind (arith, nat_tests)

name_apart : (b : ℕ) → is_name_start b ≡ true → (is_space b ≡ false) × ((b == 62) ≡ false) × ((b == 47) ≡ false)
name_apart b is = (grind (arith, nat_tests), grind (arith, nat_tests), grind (arith, nat_tests))

naming-run : (cs : List ℕ) (below : List Tree) (name : List ℕ) (attrs : List Attr) (items : Items) (attr value : List ℕ) → list_all is_name_char cs ≡ true → length name + length cs ≤ MAX_NAME
    → Goes (st below (tree name attrs items) attr value Mode.Naming) cs (st below (tree (name ++ cs) attrs items) attr value Mode.Naming)
naming-run [] below name attrs items attr value are room = ap (λ x. Some (st below (tree x attrs items) attr value Mode.Naming)) (sym (append-nil name))
naming-run (b ∷ cs) below name attrs items attr value are room =
    rw (left_of (is_name_char b) _ are, lt-ltb (length name) MAX_NAME (omega arith))
    (naming-run cs below (name ++ b ∷ []) attrs items attr value (right_of (is_name_char b) _ are) (omega (arith, length-append name (b ∷ [])))
    ∙ ap (λ x. Some (st below (tree x attrs items) attr value Mode.Naming)) (append_assoc name (b ∷ []) cs))

-- after `<`, a name opens an element
pub name-run : (below : List Tree) (top : Tree) (attr value name : List ℕ) → is_name name ≡ true → length below < MAX_NESTED
    → Goes (st below top attr value Mode.Begun) name (st (top ∷ below) (tree name [] nothing) attr value Mode.Naming)
name-run below top attr value [] is room = absurd (cc is)
name-run below top attr value (b ∷ cs) is room =
    let begins = left_of (is_begun_name (b ∷ cs)) _ is in
    rw (left_of (is_name_start b) _ begins, lt-ltb (length below) MAX_NESTED room)
    (naming-run cs (top ∷ below) (b ∷ []) [] nothing attr value (right_of (is_name_start b) _ begins) (let fits = leb-true _ _ (right_of (is_begun_name (b ∷ cs)) _ is) in omega (arith, fits)))

-- ---- attributes

name_low : (c : ℕ) → is_name_char c ≡ true → c < 128
name_low c is = grind (arith, nat_tests)

pub listed_octet : (p : ℕ → Bool) (c : ℕ) → c < 128 → p c ≡ true → list_any p (range_with_len 0 128) ≡ true
listed_octet p c low holds =
    list_any_at p (range_with_len 0 128) c 0 (omega (arith, length-range_with_len 0 128)) (ap p (get_or-range_with_len 0 128 c 0 low ∙ add_nothing c) ∙ holds)
  where
    add_nothing : (n : ℕ) → 0 + n ≡ n
    add_nothing n = omega arith

room_one : (m : List ℕ) (c : ℕ) (attrs : List Attr) → is_name_char c ≡ true → length m < 64 → has_name (m ++ c ∷ []) attrs ≡ false → has_room m attrs ≡ true
unfolding has_room
room_one m c attrs char small new =
    by_test (λ (x : Bool). x ≡ true) (nat_lt (length m) 63) (λ _. refl) (λ _. by_test (λ (x : Bool). x ≡ true) (has_name m attrs)
    (λ _. both _ _ (lt-ltb (length m) MAX_NAME small) (listed_octet (λ x. is_name_char x && not (has_name (m ++ x ∷ []) attrs)) c (name_low c char) (both _ _ char (not-false _ new)))) (λ _. refl))

-- each beginning of a new name has room
room_prefix : (m rest : List ℕ) (attrs : List Attr) → length m + length rest ≤ 64 → list_all is_name_char rest ≡ true → has_name (m ++ rest) attrs ≡ false → has_room m attrs ≡ true
unfolding has_room
room_prefix m [] attrs fits are new = by_test (λ (x : Bool). x ≡ true) (nat_lt (length m) 63) (λ _. refl)
    (λ _. by_test (λ (x : Bool). x ≡ true) (has_name m attrs) (λ has. absurd (true≢false (sym has ∙ ap (λ x. has_name x attrs) (sym (append-nil m)) ∙ new))) (λ _. refl))
room_prefix m (c ∷ []) attrs fits are new = room_one m c attrs (left_of (is_name_char c) _ are) (omega arith) new
room_prefix m (c ∷ d ∷ rest) attrs fits are new = rw (lt-ltb (length m) 63 (omega arith)) refl

pub attr-more : (cs : List ℕ) (below : List Tree) (top : Tree) (m value : List ℕ) → length m + length cs ≤ 64 → list_all is_name_char cs ≡ true → has_name (m ++ cs) top.attrs ≡ false
    → Goes (st below top m value Mode.Attr) cs (st below top (m ++ cs) value Mode.Attr)
attr-more [] below top m value fits are new = ap (λ x. Some (st below top x value Mode.Attr)) (sym (append-nil m))
attr-more (b ∷ cs) below top m value fits are new =
    let fits2 : length (m ++ b ∷ []) + length cs ≤ 64 = omega (arith, length-append m (b ∷ [])) in
    let rest = right_of (is_name_char b) _ are in
    let new2 = ap (λ x. has_name x top.attrs) (append_assoc m (b ∷ []) cs) ∙ new in
    rw (left_of (is_name_char b) _ are, lt-ltb (length m) MAX_NAME (omega arith), room_prefix (m ++ b ∷ []) cs top.attrs fits2 rest new2)
    (attr-more cs below top (m ++ b ∷ []) value fits2 rest new2 ∙ ap (λ x. Some (st below top x value Mode.Attr)) (append_assoc m (b ∷ []) cs))

-- a mode in a start tag where white space or its end may follow
abbrev pub IsTagMode : Mode → Type 0
IsTagMode mode = (mode ≡ Mode.Naming) ⊎ ((spaced : Bool) × (mode ≡ Mode.Tag spaced))

pub tag_any : (P : Mode → Type 0) (mode : Mode) → IsTagMode mode → P Mode.Naming → ((spaced : Bool) → P (Mode.Tag spaced)) → P mode
tag_any P mode is naming tag = ⊎_elim (λ e. subst P (sym e) naming) (λ e. subst P (sym e.1) (tag e.0)) is

gap-first : (below : List Tree) (top : Tree) (attr value : List ℕ) (mode : Mode) (b : ℕ) → IsTagMode mode → is_space b ≡ true → step (st below top attr value mode) b ≡ Some (st below top attr value (Mode.Tag true))
gap-first below top attr value mode b is space =
    tag_any (λ m. step (st below top attr value m) b ≡ Some (st below top attr value (Mode.Tag true))) mode is (rw (space_apart b space, space) refl) (λ spaced. rw space refl)

gap-run : (below : List Tree) (top : Tree) (attr value : List ℕ) (mode : Mode) (gap : List ℕ) → IsTagMode mode → list_all is_space gap ≡ true → 0 < length gap
    → Goes (st below top attr value mode) gap (st below top attr value (Mode.Tag true))
gap-run below top attr value mode [] is are some = absurd (omega arith)
gap-run below top attr value mode (b ∷ gap) is are some =
    ap (λ o. run o gap) (gap-first below top attr value mode b is (left_of (is_space b) _ are))
    ∙ spaces_stay (st below top attr value (Mode.Tag true)) (λ x space. rw space refl) gap (right_of (is_space b) _ are)

attr-name : (below : List Tree) (top : Tree) (attr value name : List ℕ) → is_name name ≡ true → has_name name top.attrs ≡ false
    → Goes (st below top attr value (Mode.Tag true)) name (st below top name value Mode.Attr)
unfolding has_room
attr-name below top attr value [] is new = absurd (cc is)
attr-name below top attr value (b ∷ cs) is new =
    let begins = left_of (is_begun_name (b ∷ cs)) _ is in
    let fits = leb-true _ _ (right_of (is_begun_name (b ∷ cs)) _ is) in
    let start_is = left_of (is_name_start b) _ begins in
    let apart = name_apart b start_is in
    let rest = right_of (is_name_start b) _ begins in
    rw (apart.0, apart.1, apart.2, start_is) (attr-more cs below top (b ∷ []) value (omega (arith, fits)) rest new)

-- after the name of an attribute and white space
BeforeEquals : List Tree → Tree → List ℕ → List ℕ → List ℕ → Type 0
BeforeEquals below top attr value before = (mode : Mode) × Goes (st below top attr value Mode.Attr) before (st below top attr value mode) × (step (st below top attr value mode) 61 ≡ Some (st below top attr value Mode.Quote))

before-run : (below : List Tree) (top : Tree) (attr value before : List ℕ) → has_name attr top.attrs ≡ false → list_all is_space before ≡ true → BeforeEquals below top attr value before
unfolding BeforeEquals
before-run below top attr value [] new are = (Mode.Attr, refl, rw new refl)
before-run below top attr value (b ∷ before) new are =
    let space = left_of (is_space b) _ are in (
      Mode.Equals,
      rw (space_apart b space, new, space) (spaces_stay (st below top attr value Mode.Equals) (λ x is. rw is refl) before (right_of (is_space b) _ are)),
      refl,
    )

pub quote_cases : (q : ℕ) → (q == 34 || q == 39) ≡ true → (is_space q ≡ false) × (q < 128) × ((38 == q) ≡ false)
quote_cases q is = (grind (arith, nat_tests), grind (arith, nat_tests), grind (arith, nat_tests))

quote-run : (below : List Tree) (top : Tree) (attr value : List ℕ) (q : ℕ) (ws : List Written) → (q == 34 || q == 39) ≡ true → list_all (is_written q) ws ≡ true
    → Goes (st below top attr value Mode.Quote) (q ∷ flat_map written_text ws) (st below top attr (map written_char ws) (Mode.Value q Part.Fresh))
quote-run below top attr value q ws is are =
    let cases = quote_cases q is in
    ap (λ o. run o (flat_map written_text ws)) (quoted q cases.0 is) ∙ value-chars q below top attr [] ws cases.1 cases.2 are
  where
    quoted : (q : ℕ) → is_space q ≡ false → (q == 34 || q == 39) ≡ true → step (st below top attr value Mode.Quote) q ≡ Some (st below top attr [] (Mode.Value q Part.Fresh))
    quoted q apart is = rw (apart, is) refl

pub unquote-run : (below : List Tree) (name : List ℕ) (attrs : List Attr) (items : Items) (attr value : List ℕ) (q : ℕ)
    → Goes (st below (tree name attrs items) attr value (Mode.Value q Part.Fresh)) (q ∷ []) (st below (tree name (attrs ++ record { name = attr; value = value } ∷ []) items) [] [] (Mode.Tag false))
unquote-run below name attrs items attr value q = rw (eq-eqb q q refl) refl

-- an attribute
attr-run : (below : List Tree) (name : List ℕ) (attrs : List Attr) (items : Items) (attr value : List ℕ) (mode : Mode) (a : AttrText) → IsTagMode mode → IsAttrText a → has_name a.name attrs ≡ false
    → Leads (st below (tree name attrs items) attr value mode) (attr_text a) below (tree name (attrs ++ attr_said a ∷ []) items) (Mode.Tag false)
unfolding BeforeEquals
attr-run below name attrs items attr value mode a is written new =
    let top = tree name attrs items in
    let eq = before-run below top a.name value a.before new written.before in
    let s0 = st below top attr value mode in
    let s1 = st below top attr value (Mode.Tag true) in
    let s2 = st below top a.name value Mode.Attr in
    let s3 = st below top a.name value eq.0 in
    let s4 = st below top a.name value Mode.Quote in
    let s5 = st below top a.name (map written_char a.value) (Mode.Value a.quote Part.Fresh) in
    let s6 = st below (tree name (attrs ++ attr_said a ∷ []) items) [] [] (Mode.Tag false) in
    let g1 = gap-run below top attr value mode a.gap is (left_of _ (nat_lt 0 (length a.gap)) written.gap) (ltb-true 0 (length a.gap) (right_of (list_all is_space a.gap) _ written.gap)) in
    let g2 = goes_on s0 s1 (Some s2) a.gap a.name g1 (attr-name below top attr value a.name written.name new) in
    let g3 = goes_on s0 s2 (Some s3) (a.gap ++ a.name) a.before g2 eq.1 in
    let g4 = goes_on s0 s3 (Some s4) (a.gap ++ a.name ++ a.before) (61 ∷ a.after) g3 (ap (λ o. run o a.after) eq.2 ∙ spaces_stay s4 (λ x space. rw space refl) a.after written.after) in
    let opens = quote-run below top a.name value a.quote a.value written.quote written.value in
    let g5 = goes_on s0 s4 (Some s5) (a.gap ++ a.name ++ a.before ++ 61 ∷ a.after) (a.quote ∷ flat_map written_text a.value) g4 opens in
    let closes = unquote-run below name attrs items a.name (map written_char a.value) a.quote in
    ([], [], goes_on s0 s5 (Some s6) (a.gap ++ a.name ++ a.before ++ 61 ∷ a.after ++ a.quote ∷ flat_map written_text a.value) (a.quote ∷ []) g5 closes)

-- ---- tags

-- the octets lead to a start tag that may end
abbrev pub TagLeads : State → List ℕ → List Tree → Tree → Type 0
TagLeads s xs below top = (mode : Mode) × IsTagMode mode × Leads s xs below top mode

attrs-run : (attrs : List AttrText) (before : List Attr) (below : List Tree) (name : List ℕ) (items : Items) (attr value : List ℕ) (mode : Mode) → IsTagMode mode → AreAttrTexts before attrs
    → TagLeads (st below (tree name before items) attr value mode) (flat_map attr_text attrs) below (tree name (before ++ map attr_said attrs) items)
attrs-run [] before below name items attr value mode is are =
    (mode, is, (attr, value, ap (λ x. Some (st below (tree name x items) attr value mode)) (sym (append-nil before))))
attrs-run (a ∷ attrs) before below name items attr value mode is are =
    let one = attr-run below name before items attr value mode a is are.0 are.1 in
    let rest = attrs-run attrs (before ++ attr_said a ∷ []) below name items one.0 one.1 (Mode.Tag false) (inr (false, refl)) are.2 in (
      rest.0,
      rest.1,
      (
        rest.2.0,
        rest.2.1,
        goes_on (st below (tree name before items) attr value mode) (st below (tree name (before ++ attr_said a ∷ []) items) one.0 one.1 (Mode.Tag false)) _ (attr_text a) (flat_map attr_text attrs) one.2
            (rest.2.2 ∙ ap (λ x. Some (st below (tree name x items) rest.2.0 rest.2.1 rest.0)) (append_assoc before (attr_said a ∷ []) (map attr_said attrs))),
      ),
    )

gap-any : (below : List Tree) (top : Tree) (attr value : List ℕ) (mode : Mode) (gap : List ℕ) → IsTagMode mode → list_all is_space gap ≡ true → TagLeads (st below top attr value mode) gap below top
gap-any below top attr value mode [] is are = (mode, is, (attr, value, refl))
gap-any below top attr value mode (b ∷ gap) is are = (Mode.Tag true, inr (true, refl), (attr, value, gap-run below top attr value mode (b ∷ gap) is are (omega arith)))

-- a start tag, after a place where `<` begins one
pub tag-run : (s : State) (below : List Tree) (top : Tree) (attr value : List ℕ) (t : Tag) → step s 60 ≡ Some (st below top attr value Mode.Begun) → IsTag t → length below < MAX_NESTED
    → TagLeads s (tag_text t) (top ∷ below) (tree t.name (map attr_said t.attrs) nothing)
tag-run s below top attr value t begins is room =
    let named_goes : Goes s (60 ∷ t.name) (st (top ∷ below) (tree t.name [] nothing) attr value Mode.Naming) = ap (λ o. run o t.name) begins ∙ name-run below top attr value t.name is.name room in
    let attrs_go = attrs-run t.attrs [] (top ∷ below) t.name nothing attr value Mode.Naming (inl refl) is.attrs in
    let s2 = st (top ∷ below) (tree t.name (map attr_said t.attrs) nothing) attrs_go.2.0 attrs_go.2.1 attrs_go.0 in
    let so_far = goes_on s (st (top ∷ below) (tree t.name [] nothing) attr value Mode.Naming) (Some s2) (60 ∷ t.name) (flat_map attr_text t.attrs) named_goes attrs_go.2.2 in
    let gap_goes = gap-any (top ∷ below) (tree t.name (map attr_said t.attrs) nothing) attrs_go.2.0 attrs_go.2.1 attrs_go.0 t.gap attrs_go.1 is.gap in
    (gap_goes.0, gap_goes.1, (gap_goes.2.0, gap_goes.2.1, goes_on s s2 _ (60 ∷ t.name ++ flat_map attr_text t.attrs) t.gap so_far gap_goes.2.2))

-- a start tag ends
tag-opens : (below : List Tree) (top : Tree) (attr value : List ℕ) (mode : Mode) → IsTagMode mode → step (st below top attr value mode) 62 ≡ Some (st below top attr value (Mode.Content Part.Fresh))
tag-opens below top attr value mode is = tag_any (λ m. step (st below top attr value m) 62 ≡ Some (st below top attr value (Mode.Content Part.Fresh))) mode is refl (λ spaced. refl)

pub tag-closes : (below : List Tree) (up top : Tree) (attr value : List ℕ) (mode : Mode) → IsTagMode mode → run (Some (st (up ∷ below) top attr value mode)) (47 ∷ 62 ∷ []) ≡ ended_in (up ∷ below) top attr value
tag-closes below up top attr value mode is = tag_any (λ m. run (Some (st (up ∷ below) top attr value m)) (47 ∷ 62 ∷ []) ≡ ended_in (up ∷ below) top attr value) mode is refl (λ spaced. refl)

-- the mode after an element
abbrev pub after_child : List Tree → Mode
after_child below = if is_nil below then Mode.Trail else Mode.Content Part.Fresh

-- an element with a start tag alone
pub alone-run : (s : State) (below : List Tree) (name : List ℕ) (attrs : List Attr) (items : Items) (attr value : List ℕ) (t : Tag) → step s 60 ≡ Some (st below (tree name attrs items) attr value Mode.Begun) → IsTag t → length below < MAX_NESTED
    → Leads s (tag_text t ++ codes "/>") below (tree name attrs (with_child items t.name (map attr_said t.attrs) nothing)) (after_child below)
alone-run s below name attrs items attr value t begins is room =
    let tag = tag-run s below (tree name attrs items) attr value t begins is room in (
      tag.2.0,
      tag.2.1,
      goes_on s (st (tree name attrs items ∷ below) (tree t.name (map attr_said t.attrs) nothing) tag.2.0 tag.2.1 tag.0) _ (tag_text t) (codes "/>") tag.2.2
          (tag-closes below (tree name attrs items) (tree t.name (map attr_said t.attrs) nothing) tag.2.0 tag.2.1 tag.0 tag.1),
    )

pub closing-run : (rest front : List ℕ) (below : List Tree) (top : Tree) (attr value : List ℕ) → top.name ≡ front ++ rest
    → Goes (st below top attr value (Mode.Closing (length front))) rest (st below top attr value (Mode.Closing (length top.name)))
closing-run [] front below top attr value is = ap (λ n. Some (st below top attr value (Mode.Closing n))) (sym (ap length (is ∙ append-nil front)))
closing-run (b ∷ rest) front below top attr value is =
    let within : length front < length top.name = omega (arith, ap length is, length-append front (b ∷ rest)) in
    let same : get_or top.name (length front) 0 ≡ b = ap (λ x. get_or x (length front) 0) is ∙ get_or_at front b rest 0 (length front) refl in
    let next : length front + 1 ≡ length (front ++ b ∷ []) = omega (arith, length-append front (b ∷ [])) in
    rw (lt-ltb (length front) (length top.name) within, same, eq-eqb b b refl, next) (closing-run rest (front ++ b ∷ []) below top attr value (is ∙ sym (append_assoc front (b ∷ []) rest)))

closing-whole : (below : List Tree) (top : Tree) (attr value : List ℕ) (n b : ℕ) → nat_lt n (length top.name) ≡ false → step (st below top attr value (Mode.Closing n)) b ≡ closed_step (st below top attr value (Mode.Closing n)) b
closing-whole below top attr value n b is = rw is refl

pub end-gap : (below : List Tree) (top : Tree) (attr value gap : List ℕ) → list_all is_space gap ≡ true → run (Some (st below top attr value (Mode.Closing (length top.name)))) (gap ++ 62 ∷ []) ≡ ended_in below top attr value
end-gap below top attr value [] are = closing-whole below top attr value (length top.name) 62 (le-ltb (length top.name) (length top.name) (omega arith))
end-gap below top attr value (b ∷ gap) are =
    let space = left_of (is_space b) _ are in
    let closed : step (st below top attr value (Mode.Closing (length top.name))) b ≡ Some (st below top attr value Mode.Closed)
    = closing-whole below top attr value (length top.name) b (le-ltb (length top.name) (length top.name) (omega arith)) ∙ (rw space refl) in
    ap (λ o. run o (gap ++ 62 ∷ [])) closed
    ∙ goes_on (st below top attr value Mode.Closed) (st below top attr value Mode.Closed) _ gap (62 ∷ []) (spaces_stay (st below top attr value Mode.Closed) (λ x is. rw is refl) gap (right_of (is_space b) _ are)) refl

-- an end tag
pub end-run : (below : List Tree) (up top : Tree) (attr value gap : List ℕ) → list_all is_space gap ≡ true
    → run (Some (st (up ∷ below) top attr value (Mode.Content Part.Fresh))) (60 ∷ 47 ∷ top.name ++ gap ++ 62 ∷ []) ≡ ended_in (up ∷ below) top attr value
end-run below up top attr value gap are =
    ap (run (Some (st (up ∷ below) top attr value (Mode.Closing 0)))) (append_assoc top.name gap (62 ∷ []))
    ∙ goes_on (st (up ∷ below) top attr value (Mode.Closing 0)) (st (up ∷ below) top attr value (Mode.Closing (length top.name))) _ top.name (gap ++ 62 ∷ []) (closing-run top.name [] (up ∷ below) top attr value refl)
    (end-gap (up ∷ below) top attr value gap are)

-- an element round others
pub around-run : (s : State) (below : List Tree) (name : List ℕ) (attrs : List Attr) (items : Items) (attr value : List ℕ) (t : Tag) (inner : Pieces) (gap : List ℕ) → step s 60 ≡ Some (st below (tree name attrs items) attr value Mode.Begun)
    → IsTag t → length below < MAX_NESTED → list_all is_space gap ≡ true
    → ((a v : List ℕ) → Leads (st (tree name attrs items ∷ below) (tree t.name (map attr_said t.attrs) nothing) a v (Mode.Content Part.Fresh)) (pieces_text inner) (tree name attrs items ∷ below) (tree t.name (map attr_said t.attrs) (items_of inner)) (Mode.Content Part.Fresh))
    → Leads s (tag_text t ++ 62 ∷ pieces_text inner ++ 60 ∷ 47 ∷ t.name ++ gap ++ 62 ∷ []) below (tree name attrs (with_child items t.name (map attr_said t.attrs) (items_of inner))) (after_child below)
around-run s below name attrs items attr value t inner gap begins is room spaces inner_goes =
    let up = tree name attrs items in
    let tag = tag-run s below up attr value t begins is room in
    let held = inner_goes tag.2.0 tag.2.1 in
    let s1 = st (up ∷ below) (tree t.name (map attr_said t.attrs) nothing) tag.2.0 tag.2.1 tag.0 in
    let s2 = st (up ∷ below) (tree t.name (map attr_said t.attrs) (items_of inner)) held.0 held.1 (Mode.Content Part.Fresh) in
    let opened = goes_on s s1 (Some s2) (tag_text t) (62 ∷ pieces_text inner) tag.2.2
    (ap (λ o. run o (pieces_text inner)) (tag-opens (up ∷ below) (tree t.name (map attr_said t.attrs) nothing) tag.2.0 tag.2.1 tag.0 tag.1) ∙ held.2) in (
      held.0,
      held.1,
      ap (run (Some s)) (regroup (tag_text t ++ 62 ∷ pieces_text inner) (60 ∷ 47 ∷ t.name) gap (62 ∷ []))
          ∙ goes_on s s2 _ (tag_text t ++ 62 ∷ pieces_text inner) (60 ∷ 47 ∷ t.name ++ gap ++ 62 ∷ []) opened
          (end-run below up (tree t.name (map attr_said t.attrs) (items_of inner)) held.0 held.1 gap spaces),
    )
  where
    regroup : (a b c d : List ℕ) → a ++ b ++ c ++ d ≡ a ++ (b ++ c ++ d)
    regroup a b c d = simp append_assoc

-- ---- what an element holds

pub cdata-begins : (below : List Tree) (up top : Tree) (attr value : List ℕ) → Goes (st (up ∷ below) top attr value (Mode.Content Part.Fresh)) (codes "<![CDATA[") (st (up ∷ below) top attr value (Mode.Section 0 Part.Fresh))
cdata-begins below up top attr value = refl

-- pieces, from the beginning of an element
pub pieces-run : (ps : Pieces) (below : List Tree) (up : Tree) (name : List ℕ) (attrs : List Attr) (attr value : List ℕ) → IsPieces (length (up ∷ below)) ps
    → Leads (st (up ∷ below) (tree name attrs nothing) attr value (Mode.Content Part.Fresh)) (pieces_text ps) (up ∷ below) (tree name attrs (items_of ps)) (Mode.Content Part.Fresh)
pieces-run no_pieces below up name attrs attr value is = (attr, value, refl)
pieces-run (character ps w) below up name attrs attr value is =
    leads_on _ (up ∷ below) (up ∷ below) (tree name attrs (items_of ps)) (tree name attrs (put (items_of ps) (written_char w))) (Mode.Content Part.Fresh) (Mode.Content Part.Fresh) (pieces_text ps) (written_text w)
    (pieces-run ps below up name attrs attr value is.0)
    (λ a v. (a, v, content-char (up ∷ below) name attrs (items_of ps) a v Part.Fresh (written_text w) (written_char w) (reads_written 60 w is.1) (λ _. first_written 60 60 w (omega arith) refl (plain_lt 60) is.1)))
pieces-run (section ps cs) below up name attrs attr value is =
    let whole = leads_on (st (up ∷ below) (tree name attrs nothing) attr value (Mode.Content Part.Fresh)) (up ∷ below) (up ∷ below) (tree name attrs (items_of ps)) (tree name attrs (fold put (items_of ps) cs)) (Mode.Content Part.Fresh) (Mode.Content Part.Fresh)
    (pieces_text ps) (codes "<![CDATA[" ++ (encode_utf8_all cs ++ codes "]]>")) (pieces-run ps below up name attrs attr value is.0)
    (λ a v. (
      a,
      v,
      goes_on (st (up ∷ below) (tree name attrs (items_of ps)) a v (Mode.Content Part.Fresh)) (st (up ∷ below) (tree name attrs (items_of ps)) a v (Mode.Section 0 Part.Fresh)) _ (codes "<![CDATA[") (encode_utf8_all cs ++ codes "]]>") (cdata-begins below up (tree name attrs (items_of ps)) a v)
          (section-run 0 cs (up ∷ below) name attrs (items_of ps) a v (omega arith) is.1 is.2),
    )) in
    subst (λ (x : List ℕ). Leads (st (up ∷ below) (tree name attrs nothing) attr value (Mode.Content Part.Fresh)) x (up ∷ below) (tree name attrs (fold put (items_of ps) cs)) (Mode.Content Part.Fresh))
    (regroup (pieces_text ps) (codes "<![CDATA[") (encode_utf8_all cs) (codes "]]>")) whole
  where
    regroup : (a b c d : List ℕ) → a ++ (b ++ (c ++ d)) ≡ a ++ b ++ c ++ d
    regroup a b c d = sym (simp append_assoc)
pieces-run (alone ps t) below up name attrs attr value is =
    subst (λ (x : List ℕ). Leads (st (up ∷ below) (tree name attrs nothing) attr value (Mode.Content Part.Fresh)) x (up ∷ below) (tree name attrs (with_child (items_of ps) t.name (map attr_said t.attrs) nothing)) (Mode.Content Part.Fresh))
    (sym (append_assoc (pieces_text ps) (tag_text t) (codes "/>")))
    (leads_on _ (up ∷ below) (up ∷ below) (tree name attrs (items_of ps)) (tree name attrs (with_child (items_of ps) t.name (map attr_said t.attrs) nothing)) (Mode.Content Part.Fresh) (Mode.Content Part.Fresh) (pieces_text ps) (tag_text t ++ codes "/>")
    (pieces-run ps below up name attrs attr value is.0) (λ a v. alone-run (st (up ∷ below) (tree name attrs (items_of ps)) a v (Mode.Content Part.Fresh)) (up ∷ below) name attrs (items_of ps) a v t refl is.1 is.2))
pieces-run (around ps t inner gap) below up name attrs attr value is =
    subst (λ (x : List ℕ). Leads (st (up ∷ below) (tree name attrs nothing) attr value (Mode.Content Part.Fresh)) x (up ∷ below) (tree name attrs (with_child (items_of ps) t.name (map attr_said t.attrs) (items_of inner))) (Mode.Content Part.Fresh))
    (regroup (pieces_text ps) (tag_text t) (62 ∷ pieces_text inner) (60 ∷ 47 ∷ t.name) gap (62 ∷ []))
    (leads_on _ (up ∷ below) (up ∷ below) (tree name attrs (items_of ps)) (tree name attrs (with_child (items_of ps) t.name (map attr_said t.attrs) (items_of inner))) (Mode.Content Part.Fresh) (Mode.Content Part.Fresh) (pieces_text ps) _
    (pieces-run ps below up name attrs attr value is.0)
    (λ a v. around-run (st (up ∷ below) (tree name attrs (items_of ps)) a v (Mode.Content Part.Fresh)) (up ∷ below) name attrs (items_of ps) a v t inner gap refl is.1 is.2 is.4 (λ b w. pieces-run inner (up ∷ below) (tree name attrs (items_of ps)) t.name (map attr_said t.attrs) b w is.3)))
  where
    regroup : (a b c d e f : List ℕ) → a ++ (b ++ c ++ d ++ e ++ f) ≡ a ++ b ++ c ++ d ++ e ++ f
    regroup a b c d e f = sym (simp append_assoc)

-- ---- a body

-- the body with this element
abbrev pub body_of : Tree → Tree
body_of e = tree [] [] (with_child nothing e.name e.attrs e.items)

-- one element, at the place of the outermost
one-run : (root : Pieces) → is_one root ≡ true → IsPieces 0 root → Leads start (pieces_text root) [] (tree [] [] (items_of root)) Mode.Trail
one-run no_pieces one is = absurd (cc one)
one-run (character ps w) one is = absurd (cc one)
one-run (section ps cs) one is = absurd (cc one)
one-run (alone no_pieces t) one is = alone-run start [] [] [] nothing [] [] t refl is.1 is.2
one-run (alone (character ps w) t) one is = absurd (cc one)
one-run (alone (section ps cs) t) one is = absurd (cc one)
one-run (alone (alone ps u) t) one is = absurd (cc one)
one-run (alone (around ps u inner gap) t) one is = absurd (cc one)
one-run (around no_pieces t inner gap) one is =
    around-run start [] [] [] nothing [] [] t inner gap refl is.1 is.2 is.4 (λ a v. pieces-run inner [] (tree [] [] nothing) t.name (map attr_said t.attrs) a v is.3)
one-run (around (character ps w) t inner gap) one is = absurd (cc one)
one-run (around (section ps cs) t inner gap) one is = absurd (cc one)
one-run (around (alone ps u) t inner gap) one is = absurd (cc one)
one-run (around (around ps u deep gap2) t inner gap) one is = absurd (cc one)

-- the machine reads each body, and gives its element
pub body-run : (t : List ℕ) (e : Tree) → IsBody t e → Leads start t [] (body_of e) Mode.Trail
body-run t e is =
    let root_goes = one-run is.root is.one is.pieces in
    let s1 = st [] (tree [] [] (items_of is.root)) root_goes.0 root_goes.1 Mode.Trail in
    let first = goes_on start start (Some s1) is.before (pieces_text is.root) (spaces_stay start (λ x space. rw space refl) is.before is.spaces_before) root_goes.2 in (
      root_goes.0,
      root_goes.1,
      ap (run (Some start)) is.text ∙ goes_on start s1 (Some s1) (is.before ++ pieces_text is.root) is.after first (spaces_stay s1 (λ x space. rw space refl) is.after is.spaces_after)
          ∙ ap (λ x. Some (st [] (tree [] [] x) root_goes.0 root_goes.1 Mode.Trail)) is.value,
    )
