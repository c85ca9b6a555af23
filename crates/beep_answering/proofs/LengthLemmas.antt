-- How long the messages are at most that this end writes on channel zero.
use Rattle.std.proofs.Common.{◌≡◌, ℕ, ◌+◌, ◌*◌, ◌^◌, ◌<◌, ◌≤◌, ◌==◌, nat_lt, nat_le, Bool, true, false, cond, ◌&&◌, ◌||◌, List, [], ◌∷◌, ◌++◌, length, map, fold, flat_map, codes, refl, sym, subst, arith}
use Rattle.std.specs.List.{list_all}
use Rattle.std.specs.Fmt.{decimal}
use Rattle.std.specs.Str.{is_utf8}
use Rattle.std.proofs.lemmas.Fmt.{length-decimal-le}
use Rattle.std.proofs.lemmas.List.{length-append}
use Rattle.std.proofs.lemmas.Str.{length-encode, len_utf8_bounds, chars-nil, IsUtf8-from_ascii, is_utf8-from_IsUtf8}
use Rattle.std.proofs.lemmas.Bool.Decides.{nat_tests}
use Rattle.beep_management.specs.beep_chars.specs.Characters.{is_allowed}
use Rattle.beep_management.specs.beep_chars.proofs.BoolLemmas.{both, left_of, right_of}
use Rattle.beep_management.specs.beep_text.specs.declared.attr.Attr.{Attr}
use Rattle.beep_management.specs.beep_text.specs.declared.limits.TheConstants.{MAX_TEXT}
use Rattle.beep_management.specs.beep_text.specs.Tree.{Tree, Items, nothing}
use Rattle.beep_management.specs.beep_text.specs.Elements.{Written, Pieces, no_pieces, character, alone, around, pieces_text, written_text, attr_text}
use Rattle.beep_management.specs.beep_text.specs.Canonical.{written_as, attr_as, tag_as, chars_as, pieces_as, child_as, element_text, is_nothing}
use Rattle.beep_management.specs.beep_mime.specs.Split.{mime_header}
use Rattle.beep_management.specs.beep_mgmt.specs.declared.profile.Encoding.{Encoding}
use Rattle.beep_management.specs.beep_mgmt.specs.Form.{Form, PlainProfile, chosen}
use Rattle.beep_management.specs.beep_mgmt.specs.Written.{setting, element, code_digits, run, profile_as, with_element, element_as, is_uri_allowed, comes_back_profile}
use Rattle.beep_management.specs.beep_mgmt.specs.Message.{message_text}
use Rattle.beep_management.specs.beep_decide.specs.Decide.{PlainOffer, note_of}
use Rattle.beep_answering.specs.Sent.{is_uri, plain_listed, greeting_of, refusal_of, closing_of}
use Rattle.beep_answering.specs.declared.offers.TheConstants.{MAX_OFFERS}

-- ---- characters

either-length : (b : Bool) (x y : Written) → length (written_text x) ≤ 6 → length (written_text y) ≤ 6 → length (written_text (cond b x y)) ≤ 6
either-length true x y first second = first
either-length false x y first second = second

-- a character is written in at most six octets
written-length : (in_value : Bool) (c : ℕ) → length (written_text (written_as in_value c)) ≤ 6
written-length in_value c =
    either-length (c == 38) _ _ (omega arith) (either-length (c == 60) _ _ (omega arith) (either-length (c == 62) _ _ (omega arith)
    (either-length (c == 13) _ _ (omega arith) (either-length (in_value && c == 39) _ _ (omega arith)
    (either-length (in_value && c == 9) _ _ (omega arith) (either-length (in_value && c == 10) _ _ (omega arith)
    (omega (arith, length-encode c, (len_utf8_bounds c).1))))))))

value-length : (cs : List ℕ) → length (flat_map written_text (map (written_as true) cs)) ≤ 6 * length cs
value-length [] = omega arith
value-length (c ∷ cs) =
    omega (arith, length-append (written_text (written_as true c)) (flat_map written_text (map (written_as true) cs)), written-length true c, value-length cs)

chars-length : (ps : Pieces) (cs : List ℕ) → length (pieces_text (chars_as ps cs)) ≤ length (pieces_text ps) + 6 * length cs
chars-length ps [] = omega arith
chars-length ps (c ∷ cs) =
    omega (arith, length-append (pieces_text ps) (written_text (written_as false c)), written-length false c, chars-length (character ps (written_as false c)) cs)

run-length : (cs : List ℕ) → length (pieces_text (pieces_as (run cs))) ≤ 6 * length cs
run-length [] = omega arith
run-length (c ∷ cs) = let whole = chars-length no_pieces (c ∷ cs) in omega (arith, whole)

-- ---- elements

attr-joined : (name value : List ℕ) → length (32 ∷ [] ++ name ++ [] ++ 61 ∷ [] ++ 39 ∷ value ++ 39 ∷ []) ≡ length name + length value + 4
attr-joined name value = grind (arith, length-append)

alone-joined : (before name attrs : List ℕ) → length (before ++ (60 ∷ name ++ attrs ++ 32 ∷ []) ++ 47 ∷ 62 ∷ []) ≡ length before + length name + length attrs + 4
alone-joined before name attrs = grind (arith, length-append)

around-joined : (before name attrs inner : List ℕ)
    → length (before ++ (60 ∷ name ++ attrs ++ []) ++ 62 ∷ inner ++ 60 ∷ 47 ∷ name ++ [] ++ 62 ∷ []) ≡ length before + 2 * length name + length attrs + length inner + 5
around-joined before name attrs inner = grind (arith, length-append)

attr-length : (name value : List ℕ) → length (attr_text (attr_as (setting name value))) ≤ length name + 6 * length value + 4
attr-length name value = omega (arith, attr-joined name (flat_map written_text (map (written_as true) value)), value-length value)

abbrev attrs-text : List Attr → List ℕ
attrs-text attrs = flat_map attr_text (map attr_as attrs)

one-attr : (name value : List ℕ) → length (attrs-text (setting name value ∷ [])) ≤ length name + 6 * length value + 4
one-attr name value = omega (arith, length-append (attr_text (attr_as (setting name value))) [], attr-length name value)

two-attrs : (name value other another : List ℕ)
    → length (attrs-text (setting name value ∷ setting other another ∷ [])) ≤ length name + 6 * length value + (length other + 6 * length another) + 8
two-attrs name value other another =
    omega (arith, length-append (attr_text (attr_as (setting name value))) (attrs-text (setting other another ∷ [])), attr-length name value, one-attr other another)

child-length : (ps : Pieces) (name : List ℕ) (attrs : List Attr) (b : Bool) (inner : Pieces)
    → length (pieces_text (cond b (alone ps (tag_as name attrs (32 ∷ []))) (around ps (tag_as name attrs []) inner [])))
    ≤ length (pieces_text ps) + length (attrs-text attrs) + length (pieces_text inner) + 2 * length name + 5
child-length ps name attrs true inner = omega (arith, alone-joined (pieces_text ps) name (attrs-text attrs))
child-length ps name attrs false inner = omega (arith, around-joined (pieces_text ps) name (attrs-text attrs) (pieces_text inner))

element-length : (e : Tree) → length (element_text e) ≤ length (attrs-text e.attrs) + length (pieces_text (pieces_as e.items)) + 2 * length e.name + 5
element-length e = let whole = child-length no_pieces e.name e.attrs (is_nothing e.items) (pieces_as e.items) in omega (arith, whole)

-- ---- profiles

nothing-utf8 : is_utf8 [] ≡ true
nothing-utf8 = is_utf8-from_IsUtf8 [] (IsUtf8-from_ascii [] (λ i. omega arith))

-- a profile without content is its URI alone
pub profile-plain : (uri : List ℕ) → profile_as uri [] ≡ element (codes "profile") (setting (codes "uri") uri ∷ []) nothing
profile-plain uri = rw (nothing-utf8, chars-nil) refl

uri-short : (uri : List ℕ) → is_uri uri ≡ true → length uri ≤ 255
uri-short uri is = let few = right_of (nat_lt 0 (length uri)) _ (left_of _ (list_all is_allowed uri) is) in grind (arith, nat_tests)

uri-allowed : (uri : List ℕ) → is_uri uri ≡ true → list_all is_allowed uri ≡ true
uri-allowed uri is = right_of (nat_lt 0 (length uri) && nat_le (length uri) 255) _ is

profile-attrs : (uri : List ℕ) → is_uri uri ≡ true → length (attrs-text (setting (codes "uri") uri ∷ [])) ≤ 1537
profile-attrs uri is = omega (arith, one-attr (codes "uri") uri, uri-short uri is)

-- one more profile is written in at most 1,556 octets
profile-added : (ps : Pieces) (uri : List ℕ) → is_uri uri ≡ true
    → length (pieces_text (child_as ps (codes "profile") (setting (codes "uri") uri ∷ []) nothing no_pieces)) ≤ length (pieces_text ps) + 1556
profile-added ps uri is =
    omega (arith, child-length ps (codes "profile") (setting (codes "uri") uri ∷ []) true no_pieces, profile-attrs uri is)

abbrev after-profile : Items → PlainProfile → Items
after-profile items p = with_element items (profile_as p.uri p.content)

profile-after : (items : Items) (offer : PlainOffer) → is_uri offer.uri ≡ true
    → length (pieces_text (pieces_as (after-profile items (plain_listed offer)))) ≤ length (pieces_text (pieces_as items)) + 1556
profile-after items offer is =
    subst (λ (e : Tree). length (pieces_text (pieces_as (with_element items e))) ≤ length (pieces_text (pieces_as items)) + 1556)
    (sym (profile-plain offer.uri)) (profile-added (pieces_as items) offer.uri is)

profiles-after : (offers : List PlainOffer) (items : Items) → list_all (λ offer. is_uri offer.uri) offers ≡ true
    → length (pieces_text (pieces_as (fold after-profile items (map plain_listed offers)))) ≤ length (pieces_text (pieces_as items)) + 1556 * length offers
profiles-after [] items are = omega arith
profiles-after (offer ∷ offers) items are =
    omega (
      arith,
      profile-after items offer (left_of (is_uri offer.uri) _ are),
      profiles-after offers (after-profile items (plain_listed offer)) (right_of (is_uri offer.uri) _ are),
    )

-- ---- messages

message-length : (form : Form) → length (message_text form) ≡ length mime_header + length (element_text (element_as form)) + 2
message-length form =
    omega (arith, length-append (mime_header ++ element_text (element_as form)) (13 ∷ 10 ∷ []), length-append mime_header (element_text (element_as form)))

pub greeting-length : (offers : List PlainOffer) → length offers ≤ MAX_OFFERS → list_all (λ offer. is_uri offer.uri) offers ≡ true
    → length (message_text (greeting_of offers)) ≤ MAX_TEXT
greeting-length offers few are =
    omega (arith, message-length (greeting_of offers), element-length (element_as (greeting_of offers)), profiles-after offers nothing are, few)

pub chosen-length : (offer : PlainOffer) → is_uri offer.uri ≡ true → length (message_text (chosen (plain_listed offer))) ≤ MAX_TEXT
chosen-length offer is =
    let whole : length (element_text (profile_as offer.uri [])) ≤ 2000 =
    subst (λ (e : Tree). length (element_text e) ≤ 2000) (sym (profile-plain offer.uri))
    (omega (arith, element-length (element (codes "profile") (setting (codes "uri") offer.uri ∷ []) nothing), profile-attrs offer.uri is)) in
    omega (arith, message-length (chosen (plain_listed offer)), whole)

short-note : (b : Bool) (x y : List ℕ) → length x ≤ 30 → length y ≤ 30 → length (cond b x y) ≤ 30
short-note true x y first second = first
short-note false x y first second = second

note-length : (code : ℕ) → length (note_of code) ≤ 30
note-length code =
    short-note (code == 450 || code == 550) _ _ (omega arith) (short-note (code == 451) _ _ (omega arith) (short-note (code == 500) _ _ (omega arith)
    (short-note (code == 501) _ _ (omega arith) (short-note (code == 504) _ _ (omega arith) (short-note (code == 537) _ _ (omega arith)
    (short-note (code == 553) _ _ (omega arith) (omega arith)))))))

pub refusal-length : (code : ℕ) → length (message_text (refusal_of code)) ≤ MAX_TEXT
refusal-length code =
    omega (
      arith,
      message-length (refusal_of code),
      element-length (element_as (refusal_of code)),
      one-attr (codes "code") (code_digits code),
      run-length (note_of code),
      note-length code,
    )

pub closing-length : (number : ℕ) → number < 2 ^ 32 → length (message_text (closing_of number)) ≤ MAX_TEXT
closing-length number small =
    let few : length (decimal number) ≤ 10 = length-decimal-le 10 number (omega arith) (omega (arith, small)) (omega (arith, small)) in
    omega (
      arith,
      message-length (closing_of number),
      element-length (element_as (closing_of number)),
      two-attrs (codes "number") (decimal number) (codes "code") (code_digits 200),
      few,
    )

-- ---- what is written comes back

pub plain-back : comes_back_profile (record { uri = []; encoding = Encoding.Plain; content = []; readable = true }) ≡ true
plain-back = rw (nothing-utf8, chars-nil) refl

pub offers-back : (offers : List PlainOffer) → list_all comes_back_profile (map plain_listed offers) ≡ true
offers-back [] = refl
offers-back (offer ∷ offers) = both (comes_back_profile (plain_listed offer)) _ plain-back (offers-back offers)

pub offers-allowed : (offers : List PlainOffer) → list_all (λ offer. is_uri offer.uri) offers ≡ true → list_all is_uri_allowed (map plain_listed offers) ≡ true
offers-allowed [] are = refl
offers-allowed (offer ∷ offers) are =
    both _ _ (uri-allowed offer.uri (left_of (is_uri offer.uri) _ are)) (offers-allowed offers (right_of (is_uri offer.uri) _ are))
