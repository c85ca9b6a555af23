use Rattle.std.proofs.Common.{◌≡◌, ℕ, ◌+◌, ◌*◌, ◌≤◌, ◌==◌, true, ◌&&◌, nat_le, List, [], ◌∷◌, length, Option, Some, None, refl, ◌∙◌, arith, codes}
use Rattle.std.specs.Prelude.{bytes_eq}
use Rattle.std.specs.List.{list_all}
use Rattle.std.proofs.lemmas.List.Folds.{list_all-append}
use Rattle.std.proofs.lemmas.Bool.Decides.{nat_tests}
use Rattle.beep_text.specs.declared.attr.Attr.{Attr}
use Rattle.beep_chars.specs.Characters.{is_allowed, is_digit, is_name, is_space}
use Rattle.beep_text.specs.Tree.{Tree, Items, nothing, with_chars, with_child}
use Rattle.beep_text.specs.Lawful.{are_attrs, are_items, value_named, IsElement}
use Rattle.beep_text.specs.Canonical.{is_nothing}
use Rattle.beep_text.specs.Elements.{number_of, digit_of}
use Rattle.beep_mgmt.specs.declared.profile.Encoding.{Encoding}
use Rattle.beep_mgmt.specs.declared.limits.TheConstants.{MAX_CODE, MAX_CONTENT}
use Rattle.beep_mgmt.specs.Form.{PlainProfile, Form}
use Rattle.beep_mgmt.specs.Said.{is_code, code_said, number_said, number_or_zero, encoding_said, content_text, octets_said, profile_with, profile_of, profile_said, with_profile, profiles_said, note_said, is_blank, greeting_with, start_with, chosen_with, close_with, fault_with, form_said}
use Rattle.beep_mgmt.specs.Written.{is_allowed_option, is_uri_allowed, is_writable}
use Rattle.beep_chars.proofs.BoolLemmas.{both, left_of, right_of, by_test}
use Rattle.beep_mgmt.proofs.NumberLemmas.{digit_value}

-- ---- codes

few_digits : (a b c : ℕ) → is_digit a ≡ true → is_digit b ≡ true → is_digit c ≡ true → 10 * (10 * (10 * 0 + digit_of a) + digit_of b) + digit_of c ≤ 999
few_digits a b c first second third =
    let x = digit_value a first in
    let y = digit_value b second in
    let z = digit_value c third in
    omega (arith, x.0, x.1, y.0, y.1, z.0, z.1)

-- three digits are at most 999
pub code_small : (text : List ℕ) → length text ≡ 3 → list_all is_digit text ≡ true → number_of 10 text ≤ 999
code_small [] three are = absurd (omega (arith, three))
code_small (a ∷ []) three are = absurd (omega (arith, three))
code_small (a ∷ b ∷ []) three are = absurd (omega (arith, three))
code_small (a ∷ b ∷ c ∷ []) three are =
    let others = right_of (is_digit a) _ are in
    let last = right_of (is_digit b) _ others in
    few_digits a b c (left_of (is_digit a) _ are) (left_of (is_digit b) _ others) (left_of (is_digit c) _ last)
code_small (a ∷ b ∷ c ∷ d ∷ rest) three are = absurd (omega (arith, three))

abbrev SmallCode : Option ℕ → Type 0
SmallCode None = Unit {0}
SmallCode (Some code) = nat_le code MAX_CODE ≡ true

is_small : (text : List ℕ) → is_code text ≡ true → nat_le (number_of 10 text) MAX_CODE ≡ true
is_small text is =
    let three : length text ≡ 3 = (let same = left_of (length text == 3) _ is in grind (arith, nat_tests)) in
    let small = code_small text three (right_of (length text == 3) _ is) in
    grind (arith, nat_tests)

small_code : (text : Option (List ℕ)) → SmallCode (code_said text)
small_code None = tt
small_code (Some text) = by_test SmallCode (is_code text) (λ is. is_small text is) (λ _. tt)

-- ---- texts

value_allowed : (name : List ℕ) (attrs : List Attr) → are_attrs attrs ≡ true → is_allowed_option (value_named name attrs) ≡ true
value_allowed name [] are = refl
value_allowed name (a ∷ attrs) are =
    by_test (λ (o : Option (List ℕ)). is_allowed_option o ≡ true) (bytes_eq a.name name)
    (λ _. right_of (is_name a.name) _ (left_of (is_name a.name && list_all is_allowed a.value) _ (left_of _ (are_attrs attrs) are)))
    (λ _. value_allowed name attrs (right_of _ (are_attrs attrs) are))

note_allowed : (items : Items) → are_items items ≡ true → is_allowed_option (note_said items) ≡ true
note_allowed nothing are = refl
note_allowed (with_chars items cs) are =
    by_test (λ (o : Option (List ℕ)). is_allowed_option o ≡ true) (is_nothing items) (λ _. right_of _ (list_all is_allowed cs) are) (λ _. refl)
note_allowed (with_child items name attrs inside) are = refl

-- ---- profiles

abbrev AllowedProfile : Option PlainProfile → Type 0
AllowedProfile None = Unit {0}
AllowedProfile (Some p) = is_uri_allowed p ≡ true

abbrev AllowedProfiles : Option (List PlainProfile) → Type 0
AllowedProfiles None = Unit {0}
AllowedProfiles (Some ps) = list_all is_uri_allowed ps ≡ true

with_allowed : (uri : List ℕ) (encoding : Encoding) (octets : Option (List ℕ)) → list_all is_allowed uri ≡ true → is_uri_allowed (profile_with uri encoding octets) ≡ true
with_allowed uri encoding None is = is
with_allowed uri encoding (Some octets) is = by_test (λ (p : PlainProfile). is_uri_allowed p ≡ true) (nat_le (length octets) MAX_CONTENT) (λ _. is) (λ _. is)

of_allowed : (uri : Option (List ℕ)) (encoding : Encoding) (text : List ℕ) → is_allowed_option uri ≡ true → AllowedProfile (profile_of uri encoding text)
of_allowed None encoding text is = tt
of_allowed (Some uri) encoding text is = with_allowed uri encoding (octets_said encoding text) is

profile_allowed : (e : Tree) → are_attrs e.attrs ≡ true → AllowedProfile (profile_said e)
profile_allowed e are =
    by_test AllowedProfile (bytes_eq e.name (codes "profile"))
    (λ _. of_allowed (value_named (codes "uri") e.attrs) (encoding_said (value_named (codes "encoding") e.attrs)) (content_text e.items) (value_allowed (codes "uri") e.attrs are))
    (λ _. tt)

one_more_allowed : (ps : Option (List PlainProfile)) (p : Option PlainProfile) → AllowedProfiles ps → AllowedProfile p → AllowedProfiles (with_profile ps p)
one_more_allowed None p before is = tt
one_more_allowed (Some ps) None before is = tt
one_more_allowed (Some ps) (Some p) before is = list_all-append is_uri_allowed ps (p ∷ []) ∙ both _ _ before (both _ _ is refl)

profiles_allowed : (items : Items) → are_items items ≡ true → AllowedProfiles (profiles_said items)
profiles_allowed nothing are = refl
profiles_allowed (with_chars items cs) are =
    by_test AllowedProfiles (list_all is_space cs)
    (λ _. profiles_allowed items (left_of (are_items items) _ (left_of _ _ (left_of _ (list_all is_allowed cs) are)))) (λ _. tt)
profiles_allowed (with_child items name attrs inside) are =
    let outer = left_of _ (are_items inside) are in
    one_more_allowed (profiles_said items) (profile_said (record { name = name; attrs = attrs; items = inside }))
    (profiles_allowed items (left_of (are_items items) _ (left_of _ (are_attrs attrs) outer)))
    (profile_allowed (record { name = name; attrs = attrs; items = inside }) (right_of _ (are_attrs attrs) outer))

-- ---- forms

abbrev pub Writable : Option Form → Type 0
Writable None = Unit {0}
Writable (Some form) = is_writable form ≡ true

greeting_writable : (features localize : Option (List ℕ)) (ps : Option (List PlainProfile)) → is_allowed_option features ≡ true → is_allowed_option localize ≡ true → AllowedProfiles ps
    → Writable (greeting_with features localize ps)
greeting_writable features localize None first second are = tt
greeting_writable features localize (Some ps) first second are = both _ _ (both _ _ first second) are

start_writable : (number : Option ℕ) (server : Option (List ℕ)) (ps : Option (List PlainProfile)) → is_allowed_option server ≡ true → AllowedProfiles ps
    → Writable (start_with number server ps)
start_writable None server ps is are = tt
start_writable (Some number) server None is are = tt
start_writable (Some number) server (Some []) is are = tt
start_writable (Some number) server (Some (p ∷ ps)) is are = both _ _ is are

chosen_writable : (p : Option PlainProfile) → AllowedProfile p → Writable (chosen_with p)
chosen_writable None is = tt
chosen_writable (Some p) is = is

close_writable : (number code : Option ℕ) (note : Option (List ℕ)) → SmallCode code → is_allowed_option note ≡ true → Writable (close_with number code note)
close_writable None code _ small is = tt
close_writable (Some number) None _ small is = tt
close_writable (Some number) (Some code) None small is = tt
close_writable (Some number) (Some code) (Some note) small is = both _ _ small is

fault_writable : (code : Option ℕ) (note : Option (List ℕ)) → SmallCode code → is_allowed_option note ≡ true → Writable (fault_with code note)
fault_writable None _ small is = tt
fault_writable (Some code) None small is = tt
fault_writable (Some code) (Some note) small is = both _ _ small is

-- what an element says can be written
pub said_writable : (e : Tree) → IsElement e → Writable (form_said e)
said_writable e is =
    by_test Writable (bytes_eq e.name (codes "greeting"))
    (λ _. greeting_writable _ _ (profiles_said e.items) (value_allowed (codes "features") e.attrs is.attrs) (value_allowed (codes "localize") e.attrs is.attrs) (profiles_allowed e.items is.items))
    (λ _. by_test Writable (bytes_eq e.name (codes "start"))
    (λ _. start_writable (number_said (value_named (codes "number") e.attrs)) _ (profiles_said e.items) (value_allowed (codes "serverName") e.attrs is.attrs) (profiles_allowed e.items is.items))
    (λ _. by_test Writable (bytes_eq e.name (codes "profile"))
    (λ _. chosen_writable (profile_said e) (profile_allowed e is.attrs))
    (λ _. by_test Writable (bytes_eq e.name (codes "close"))
    (λ _. close_writable (number_or_zero (value_named (codes "number") e.attrs)) (code_said (value_named (codes "code") e.attrs)) (note_said e.items) (small_code (value_named (codes "code") e.attrs)) (note_allowed e.items is.items))
    (λ _. by_test Writable (bytes_eq e.name (codes "ok"))
    (λ _. by_test Writable (is_blank e.items) (λ _. refl) (λ _. tt))
    (λ _. by_test Writable (bytes_eq e.name (codes "error"))
    (λ _. fault_writable (code_said (value_named (codes "code") e.attrs)) (note_said e.items) (small_code (value_named (codes "code") e.attrs)) (note_allowed e.items is.items))
    (λ _. tt))))))
