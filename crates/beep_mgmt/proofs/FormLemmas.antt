use Rattle.std.proofs.Common.{◌≡◌, ℕ, ◌<◌, ◌≤◌, ◌^◌, Bool, true, false, ◌&&◌, not, cond, nat_le, List, [], ◌∷◌, ◌++◌, length, fold, Option, Some, None, chars, encode_utf8_all, refl, sym, ap, ap₂, ◌∙◌, arith, codes, append_assoc, append-nil, ltb-true}
use Rattle.std.specs.List.{list_all, filter}
use Rattle.std.specs.Fmt.{decimal}
use Rattle.std.specs.Str.{is_utf8}
use Rattle.std.specs.Result.{result_ok}
use Rattle.std.proofs.lemmas.Str.{encodes-chars, IsUtf8-from_is_utf8}
use Rattle.std.proofs.lemmas.Bool.Decides.{nat_tests}
use Rattle.base64.specs.GeneralPurpose.{encode_of, decode_of}
use Rattle.base64.specs.Engines.{standard}
use Rattle.beep_chars.specs.Characters.{is_space}
use Rattle.beep_text.specs.Tree.{Tree, Items, nothing}
use Rattle.beep_text.specs.Lawful.{value_named}
use Rattle.beep_mgmt.specs.declared.profile.Encoding.{Encoding}
use Rattle.beep_mgmt.specs.declared.limits.TheConstants.{MAX_CODE, MAX_CONTENT}
use Rattle.beep_mgmt.specs.Form.{PlainProfile, Form, greeting, start, chosen, close, okay, fault}
use Rattle.beep_mgmt.specs.Said.{code_said, content_text, profile_with, profile_said, with_profile, profiles_said, note_said, greeting_with, start_with, chosen_with, close_with, fault_with, form_said}
use Rattle.beep_mgmt.specs.Written.{setting, optional, code_digits, run, element, is_text, profile_as, with_element, profiles_as, element_as, is_writable, same_encoding, comes_back_profile, comes_back, has_profile}
use Rattle.beep_mgmt.specs.Sized.{is_octet, has_octets, is_u32, is_sized}
use Rattle.beep_chars.proofs.BoolLemmas.{left_of, right_of}
use Rattle.beep_mgmt.proofs.BackLemmas.{number_back, code_back}
use Rattle.beep_mgmt.proofs.Base64Lemmas.{encoded-symbols, symbols-filtered, symbols-encoded, decoded-encoded, octets_are}

-- ---- characters alone

note_said-run : (cs : List ℕ) → note_said (run cs) ≡ Some cs
note_said-run [] = refl
note_said-run (c ∷ cs) = refl

content_text-run : (cs : List ℕ) → content_text (run cs) ≡ encode_utf8_all cs
content_text-run [] = refl
content_text-run (c ∷ cs) = refl

-- ---- a profile

same_is : (a b : Encoding) → same_encoding a b ≡ true → a ≡ b
same_is Encoding.Plain Encoding.Plain is = refl
same_is Encoding.Plain Encoding.Base64 is = absurd (cc is)
same_is Encoding.Plain Encoding.Other is = absurd (cc is)
same_is Encoding.Base64 Encoding.Plain is = absurd (cc is)
same_is Encoding.Base64 Encoding.Base64 is = refl
same_is Encoding.Base64 Encoding.Other is = absurd (cc is)
same_is Encoding.Other Encoding.Plain is = absurd (cc is)
same_is Encoding.Other Encoding.Base64 is = absurd (cc is)
same_is Encoding.Other Encoding.Other is = refl

-- what stands in the element of a profile
abbrev plainly : List ℕ → List ℕ → Tree
plainly uri octets = element (codes "profile") (setting (codes "uri") uri ∷ []) (run (chars octets))

abbrev encoded : List ℕ → List ℕ → Tree
encoded uri octets = element (codes "profile") (setting (codes "uri") uri ∷ setting (codes "encoding") (codes "base64") ∷ []) (run (encode_of standard octets))

-- a readable profile that is kept
abbrev kept : List ℕ → Encoding → List ℕ → PlainProfile
kept uri encoding octets = record { uri = uri; encoding = encoding; content = octets; readable = true }

kept_with : (uri : List ℕ) (encoding : Encoding) (octets : List ℕ) → nat_le (length octets) MAX_CONTENT ≡ true → profile_with uri encoding (Some octets) ≡ kept uri encoding octets
kept_with uri encoding octets small = ap (λ b. cond b (kept uri encoding octets) (record { uri = uri; encoding = encoding; content = []; readable = false })) small

plain_said : (uri octets : List ℕ) → is_text octets ≡ true → nat_le (length octets) MAX_CONTENT ≡ true → profile_said (plainly uri octets) ≡ Some (kept uri Encoding.Plain octets)
plain_said uri octets text small =
    let back = content_text-run (chars octets) ∙ encodes-chars octets (IsUtf8-from_is_utf8 octets (left_of (is_utf8 octets) _ text)) in
    ap (λ t. Some (profile_with uri Encoding.Plain (Some t))) back ∙ ap (λ p. Some p) (kept_with uri Encoding.Plain octets small)

encoded_said : (uri octets : List ℕ) → list_all is_octet octets ≡ true → nat_le (length octets) MAX_CONTENT ≡ true → profile_said (encoded uri octets) ≡ Some (kept uri Encoding.Base64 octets)
encoded_said uri octets are small =
    let bytes = octets_are octets are in
    let symbols = encoded-symbols octets bytes in
    let text = content_text-run (encode_of standard octets) ∙ symbols-encoded (encode_of standard octets) symbols in
    ap (λ t. Some (profile_with uri Encoding.Base64 (result_ok (decode_of standard (filter (λ c. not (is_space c)) t))))) text
    ∙ ap (λ t. Some (profile_with uri Encoding.Base64 (result_ok (decode_of standard t)))) (symbols-filtered (encode_of standard octets) symbols)
    ∙ ap (λ r. Some (profile_with uri Encoding.Base64 (result_ok r))) (decoded-encoded octets bytes)
    ∙ ap (λ p. Some p) (kept_with uri Encoding.Base64 octets small)

kept_is : (p : PlainProfile) (encoding : Encoding) → p.readable ≡ true → p.encoding ≡ encoding → kept p.uri encoding p.content ≡ p
kept_is p encoding readable is =
    ap₂ (λ e r. record { uri = p.uri; encoding = e; content = p.content; readable = r }) (sym is) (sym readable)

profile_back : (p : PlainProfile) → has_octets p ≡ true → comes_back_profile p ≡ true → profile_said (profile_as p.uri p.content) ≡ Some p
profile_back p octets back =
    let two = left_of (p.readable && nat_le (length p.content) MAX_CONTENT) _ back in
    let readable = left_of p.readable _ two in
    let small = right_of p.readable _ two in
    let same = right_of (p.readable && nat_le (length p.content) MAX_CONTENT) _ back in
    elim (is_text p.content) as (λ b. is_text p.content ≡ b → profile_said (cond b (plainly p.uri p.content) (encoded p.uri p.content)) ≡ Some p) [
      | true ↦ λ text.
          (let is = same_is p.encoding Encoding.Plain (sym (ap (λ b. same_encoding p.encoding (cond b Encoding.Plain Encoding.Base64)) text) ∙ same) in
          plain_said p.uri p.content text small ∙ ap (λ x. Some x) (kept_is p Encoding.Plain readable is))
      | false ↦ λ text.
          (let is = same_is p.encoding Encoding.Base64 (sym (ap (λ b. same_encoding p.encoding (cond b Encoding.Plain Encoding.Base64)) text) ∙ same) in
          encoded_said p.uri p.content octets small ∙ ap (λ x. Some x) (kept_is p Encoding.Base64 readable is))
    ] refl

-- ---- profiles

profiles_after : (ps before : List PlainProfile) (items : Items) → profiles_said items ≡ Some before → list_all has_octets ps ≡ true → list_all comes_back_profile ps ≡ true
    → profiles_said (fold (λ all p. with_element all (profile_as p.uri p.content)) items ps) ≡ Some (before ++ ps)
profiles_after [] before items is octets back = is ∙ ap (λ x. Some x) (sym (append-nil before))
profiles_after (p ∷ ps) before items is octets back =
    let e = profile_as p.uri p.content in
    let one = profile_back p (left_of (has_octets p) _ octets) (left_of (comes_back_profile p) _ back) in
    let more = ap (λ x. with_profile x (profile_said e)) is ∙ ap (with_profile (Some before)) one in
    profiles_after ps (before ++ p ∷ []) (with_element items e) more (right_of (has_octets p) _ octets) (right_of (comes_back_profile p) _ back)
    ∙ ap (λ x. Some x) (append_assoc before (p ∷ []) ps)

profiles_back : (ps : List PlainProfile) → list_all has_octets ps ≡ true → list_all comes_back_profile ps ≡ true → profiles_said (profiles_as ps) ≡ Some ps
profiles_back ps octets back = profiles_after ps [] nothing refl octets back

-- ---- attributes

features_back : (features localize : Option (List ℕ)) → value_named (codes "features") (optional (codes "features") features ++ optional (codes "localize") localize) ≡ features
features_back None None = refl
features_back None (Some l) = refl
features_back (Some f) localize = refl

localize_back : (features localize : Option (List ℕ)) → value_named (codes "localize") (optional (codes "features") features ++ optional (codes "localize") localize) ≡ localize
localize_back None None = refl
localize_back None (Some l) = refl
localize_back (Some f) None = refl
localize_back (Some f) (Some l) = refl

server_back : (server : Option (List ℕ)) → value_named (codes "serverName") (optional (codes "serverName") server) ≡ server
server_back None = refl
server_back (Some s) = refl

-- ---- forms

greeting_back : (features localize : Option (List ℕ)) (ps : List PlainProfile) → list_all has_octets ps ≡ true → list_all comes_back_profile ps ≡ true
    → form_said (element_as (greeting features localize ps)) ≡ Some (greeting features localize ps)
greeting_back features localize ps octets back =
    let attrs = optional (codes "features") features ++ optional (codes "localize") localize in
    ap (λ x. greeting_with x (value_named (codes "localize") attrs) (profiles_said (profiles_as ps))) (features_back features localize)
    ∙ ap (λ x. greeting_with features x (profiles_said (profiles_as ps))) (localize_back features localize)
    ∙ ap (greeting_with features localize) (profiles_back ps octets back)

start_some : (number : ℕ) (server : Option (List ℕ)) (ps : List PlainProfile) → has_profile ps ≡ true → start_with (Some number) server (Some ps) ≡ Some (start number server ps)
start_some number server [] some = absurd (cc some)
start_some number server (p ∷ ps) some = refl

start_back : (number : ℕ) (server : Option (List ℕ)) (ps : List PlainProfile) → number < 2 ^ 32 → list_all has_octets ps ≡ true → has_profile ps ≡ true → list_all comes_back_profile ps ≡ true
    → form_said (element_as (start number server ps)) ≡ Some (start number server ps)
start_back number server ps small octets some back =
    let attrs = setting (codes "number") (decimal number) ∷ optional (codes "serverName") server in
    ap (λ x. start_with x (value_named (codes "serverName") attrs) (profiles_said (profiles_as ps))) (number_back number small)
    ∙ ap (λ x. start_with (Some number) x (profiles_said (profiles_as ps))) (server_back server)
    ∙ ap (start_with (Some number) server) (profiles_back ps octets back)
    ∙ start_some number server ps some

close_back : (number code : ℕ) (note : List ℕ) → number < 2 ^ 32 → code ≤ 999 → form_said (element_as (close number code note)) ≡ Some (close number code note)
close_back number code note small few =
    ap (λ x. close_with x (code_said (Some (code_digits code))) (note_said (run note))) (number_back number small)
    ∙ ap (λ x. close_with (Some number) x (note_said (run note))) (code_back code few)
    ∙ ap (close_with (Some number) (Some code)) (note_said-run note)

fault_back : (code : ℕ) (note : List ℕ) → code ≤ 999 → form_said (element_as (fault code note)) ≡ Some (fault code note)
fault_back code note few =
    ap (λ x. fault_with x (note_said (run note))) (code_back code few) ∙ ap (fault_with (Some code)) (note_said-run note)

chosen_is : (b : Bool) (uri octets : List ℕ) → form_said (cond b (plainly uri octets) (encoded uri octets)) ≡ chosen_with (profile_said (cond b (plainly uri octets) (encoded uri octets)))
chosen_is true uri octets = refl
chosen_is false uri octets = refl

code_few : (code : ℕ) (b : Bool) → (nat_le code MAX_CODE && b) ≡ true → code ≤ 999
code_few code b is = (let few = left_of (nat_le code MAX_CODE) b is in grind (arith, nat_tests))

-- the element of a value that comes back says it
pub said_as : (form : Form) → is_writable form ≡ true → is_sized form ≡ true → comes_back form ≡ true → form_said (element_as form) ≡ Some form
said_as (greeting features localize ps) writable sized back = greeting_back features localize ps sized back
said_as (start number server ps) writable sized back =
    start_back number server ps (ltb-true number (2 ^ 32) (left_of (is_u32 number) _ sized)) (right_of (is_u32 number) _ sized) (left_of (has_profile ps) _ back) (right_of (has_profile ps) _ back)
said_as (chosen p) writable sized back = chosen_is (is_text p.content) p.uri p.content ∙ ap chosen_with (profile_back p sized back)
said_as (close number code note) writable sized back = close_back number code note (ltb-true number (2 ^ 32) sized) (code_few code _ writable)
said_as okay writable sized back = refl
said_as (fault code note) writable sized back = fault_back code note (code_few code _ writable)
