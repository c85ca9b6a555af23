-- What a sender asks on channel zero is read as what it says.
use Rattle.std.proofs.Common.{◌≡◌, ◌↔◌, ℕ, ◌+◌, ◌*◌, ◌<◌, ◌≤◌, ◌==◌, nat_lt, nat_le, Bool, true, false, cond, ◌&&◌, List, [], ◌∷◌, ◌++◌, length, map, flat_map, Some, None, codes, refl, sym, subst, ap, ◌∙◌, arith}
use Rattle.std.specs.List.{list_all}
use Rattle.std.proofs.lemmas.Fmt.{decimal_digit}
use Rattle.std.proofs.lemmas.List.{length-append, append_assoc}
use Rattle.std.proofs.lemmas.List.Folds.{list_all-append}
use Rattle.std.proofs.lemmas.Str.{length-encode, len_utf8_bounds}
use Rattle.std.proofs.lemmas.Bool.Decides.{nat_tests}
use Rattle.beep_session.specs.beep_chars.specs.Characters.{is_allowed, is_space}
use Rattle.beep_session.specs.beep_chars.proofs.BoolLemmas.{both, left_of, right_of}
use Rattle.beep_session.specs.beep_text.specs.declared.limits.TheConstants.{MAX_TEXT}
use Rattle.beep_session.specs.beep_text.specs.Tree.{Tree, nothing}
use Rattle.beep_session.specs.beep_text.specs.Elements.{IsBody, Written, written_text, attr_text}
use Rattle.beep_session.specs.beep_text.specs.Canonical.{written_as, attr_as, element_text}
use Rattle.beep_session.specs.beep_text.specs.Lawful.{IsElement, are_attrs, are_items}
use Rattle.beep_session.specs.beep_text.proofs.WrittenLemmas.{canonical-body}
use Rattle.beep_session.specs.beep_mime.specs.Split.{mime_header, body_of}
use Rattle.beep_session.specs.beep_mime.proofs.SplitLemmas.{body_of-header}
use Rattle.beep_session.specs.beep_mgmt.specs.Form.{Form, start, close}
use Rattle.beep_session.specs.beep_mgmt.specs.Message.{message_text, message_said, Says}
use Rattle.beep_session.specs.beep_mgmt.specs.Said.{form_said}
use Rattle.beep_session.specs.beep_mgmt.specs.Written.{setting, element, element_as, profile_as, with_element}
use Rattle.beep_session.specs.beep_answering.specs.Sent.{is_uri, closing_of}
use Rattle.beep_session.specs.beep_answering.proofs.LengthLemmas.{closing-length, profile-plain}
use Rattle.beep_desk.specs.beep_talk.specs.AtZero.{profile_of}
use Rattle.beep_desk.specs.beep_script.specs.Requested.{SenderTexts}

-- the message of a lawful element says what the element does
ended : (body : List ℕ) (e : Tree) → IsBody body e → IsBody (body ++ 13 ∷ 10 ∷ []) e
ended body e is = record {
  before = is.before;
  root = is.root;
  after = is.after ++ 13 ∷ 10 ∷ [];
  text = ap (λ bs. bs ++ 13 ∷ 10 ∷ []) is.text ∙ append_assoc _ is.after (13 ∷ 10 ∷ []);
  spaces_before = is.spaces_before;
  spaces_after = list_all-append is_space is.after (13 ∷ 10 ∷ []) ∙ both _ _ is.spaces_after refl;
  one = is.one;
  pieces = is.pieces;
  value = is.value;
}

module _ (law : (payload : List ℕ) (form : Form) → (message_said payload ≡ Some form) ↔ ((length payload ≤ MAX_TEXT) × Says payload form)) where
  -- a message of a lawful element that isn't too long is read as what the element says
  pub reads-back : (form : Form) (e : Tree) → element_as form ≡ e → IsElement e → form_said e ≡ Some form → length (message_text form) ≤ MAX_TEXT
      → message_said (message_text form) ≡ Some form
  reads-back form e same is said short =
      let text = element_text (element_as form) in
      let body : IsBody text e = subst (λ (x : Tree). IsBody (element_text x) e) (sym same) (canonical-body e is) in
      (law (message_text form) form).1 (
        short,
        record {
          element = e;
          body = subst (λ (x : List ℕ). IsBody x e) (sym (ap body_of (append_assoc mime_header text (13 ∷ 10 ∷ [])) ∙ body_of-header (text ++ 13 ∷ 10 ∷ [])))
              (ended text e body);
          form_is = said;
        },
      )

  -- ---- a close

  abbrev closing : List ℕ → Tree
  closing digits = element (codes "close") (setting (codes "number") digits ∷ setting (codes "code") (codes "200") ∷ []) nothing

  closing-said : (number : ℕ) → number < 10 → are_attrs (closing ((48 + number) ∷ [])).attrs ≡ true → form_said (closing ((48 + number) ∷ [])) ≡ Some (closing_of number)
      → message_said (message_text (closing_of number)) ≡ Some (closing_of number)
  closing-said number small are said =
      reads-back (closing_of number) (closing ((48 + number) ∷ [])) (ap closing (decimal_digit number small))
      (record { named = refl; attrs = are; items = refl; nested = omega arith }) said (closing-length number (omega (arith, small)))

  close-one : message_said (message_text (close 1 200 [])) ≡ Some (close 1 200 [])
  close-one = closing-said 1 (omega arith) refl refl

  close-zero : message_said (message_text (close 0 200 [])) ≡ Some (close 0 200 [])
  close-zero = closing-said 0 (omega arith) refl refl

  -- ---- a start

  either-length : (b : Bool) (x y : Written) → length (written_text x) ≤ 6 → length (written_text y) ≤ 6 → length (written_text (cond b x y)) ≤ 6
  either-length true x y first second = first
  either-length false x y first second = second

  -- a character is written in at most six octets
  written-length : (c : ℕ) → length (written_text (written_as true c)) ≤ 6
  written-length c =
      either-length (c == 38) _ _ (omega arith) (either-length (c == 60) _ _ (omega arith) (either-length (c == 62) _ _ (omega arith)
      (either-length (c == 13) _ _ (omega arith) (either-length (true && c == 39) _ _ (omega arith)
      (either-length (true && c == 9) _ _ (omega arith) (either-length (true && c == 10) _ _ (omega arith)
      (omega (arith, length-encode c, (len_utf8_bounds c).1))))))))

  value-length : (cs : List ℕ) → length (flat_map written_text (map (written_as true) cs)) ≤ 6 * length cs
  value-length [] = omega arith
  value-length (c ∷ cs) =
      omega (arith, length-append (written_text (written_as true c)) (flat_map written_text (map (written_as true) cs)), written-length c, value-length cs)

  attr-joined : (name value : List ℕ) → length (32 ∷ [] ++ name ++ [] ++ 61 ∷ [] ++ 39 ∷ value ++ 39 ∷ []) ≡ length name + length value + 4
  attr-joined name value = grind (arith, length-append)

  abbrev attr-text : List ℕ → List ℕ → List ℕ
  attr-text name value = flat_map attr_text (map attr_as (setting name value ∷ []))

  one-attr : (name value : List ℕ) → length (attr-text name value) ≤ length name + 6 * length value + 4
  one-attr name value =
      omega (arith, length-append (attr_text (attr_as (setting name value))) [], attr-joined name (flat_map written_text (map (written_as true) value)), value-length value)

  -- a start that holds one tag
  start-joined : (outer name attrs number : List ℕ) → length (mime_header ++ ([] ++ (60 ∷ outer ++ number ++ []) ++ 62 ∷ ([] ++ (60 ∷ name ++ attrs ++ 32 ∷ []) ++ 47 ∷ 62 ∷ []) ++ 60 ∷ 47 ∷ outer ++ [] ++ 62 ∷ []) ++ 13 ∷ 10 ∷ [])
      ≡ length mime_header + 2 * length outer + length name + length attrs + length number + 11
  start-joined outer name attrs number = grind (arith, length-append)

  module _ (uri : List ℕ) (is : is_uri uri ≡ true) where
    uri-short : length uri ≤ 255
    uri-short = let few = right_of (nat_lt 0 (length uri)) _ (left_of _ (list_all is_allowed uri) is) in grind (arith, nat_tests)

    uri-allowed : list_all is_allowed uri ≡ true
    uri-allowed = right_of (nat_lt 0 (length uri) && nat_le (length uri) 255) _ is

    abbrev starting : Form
    starting = start 1 None (profile_of uri ∷ [])

    -- the element of a profile without content, and of a start with a profile
    abbrev plain : Tree
    plain = element (codes "profile") (setting (codes "uri") uri ∷ []) nothing

    abbrev around-profile : List ℕ → Tree → Tree
    around-profile digits e = element (codes "start") (setting (codes "number") digits ∷ []) (with_element nothing e)

    abbrev start-tree : Tree
    start-tree = around-profile (codes "1") plain

    start-is : element_as starting ≡ start-tree
    start-is = ap (λ (digits : List ℕ). around-profile digits (profile_as uri [])) (decimal_digit 1 (omega arith)) ∙ ap (around-profile (codes "1")) (profile-plain uri)

    plain-items : are_items (with_element nothing plain) ≡ true
    plain-items = ap (λ (b : Bool). b && true && true && true) uri-allowed

    form-is : form_said start-tree ≡ Some starting
    form-is = refl

    start-length : length (message_text starting) ≤ MAX_TEXT
    start-length = subst (λ (e : Tree). length (mime_header ++ element_text e ++ 13 ∷ 10 ∷ []) ≤ MAX_TEXT) (sym start-is)
        (let joined = start-joined (codes "start") (codes "profile") (attr-text (codes "uri") uri) (attr-text (codes "number") (codes "1")) in omega (arith, joined, one-attr (codes "uri") uri, one-attr (codes "number") (codes "1"), uri-short))

    start-said : message_said (message_text starting) ≡ Some starting
    start-said =
        reads-back starting start-tree start-is (record { named = refl; attrs = refl; items = plain-items; nested = omega arith }) form-is start-length

    -- the texts of a sender that asks for a profile with this URI
    pub sender-texts : SenderTexts uri
    sender-texts = record { start_said = start-said; close_said = close-one; release_said = close-zero }
