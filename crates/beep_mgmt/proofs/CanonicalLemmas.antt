-- What is written of the commonest messages is read so.
use Rattle.std.proofs.Common.{◌≡◌, ℕ, zero, suc, ◌<◌, ◌≤◌, ◌^◌, ◌==◌, true, false, List, [], ◌∷◌, ◌++◌, Option, map, flat_map, codes, Some, None, refl, sym, ap, subst, ◌∙◌, append_assoc, append-nil, arith}
use Rattle.std.specs.List.{list_all}
use Rattle.std.specs.Fmt.{decimal}
use Rattle.std.specs.Str.{IsAscii}
use Rattle.std.specs.declared.result.Result.{Result}
use Rattle.std.specs.declared.result.Result.TheVariants.{Ok, Err}
use Rattle.std.specs.Result.{IfOk}
use Rattle.std.specs.Option.{IfSome}
use Rattle.std.proofs.lemmas.Str.{encode_ascii, IsUtf8-from_ascii, chars-IsAscii, is_utf8-from_IsUtf8}
use Rattle.std.proofs.lemmas.Bool.Decides.{nat_tests}
use Rattle.beep_octets.specs.declared.octets.NoMemory.{NoMemory}
use Rattle.beep_chars.specs.Characters.{is_allowed, is_digit, is_name}
use Rattle.beep_chars.proofs.BoolLemmas.{both, left_of, right_of}
use Rattle.beep_mime.specs.Split.{mime_header}
use Rattle.beep_text.specs.Elements.{written_text}
use Rattle.beep_text.specs.Canonical.{element_text, written_as}
use Rattle.beep_text.specs.Lawful.{are_attrs, IsElement}
use Rattle.beep_text.specs.Tree.{Tree, nothing, with_child}
use Rattle.beep_text.proofs.WrittenLemmas.{canonical-body}
use Rattle.beep_mgmt.specs.declared.mgmt.Mgmt.{Mgmt}
use Rattle.beep_mgmt.specs.Form.{Form, PlainProfile, close, start, chosen, okay, form_of}
use Rattle.beep_mgmt.specs.Said.{start_with, close_with, code_said, form_said}
use Rattle.beep_mgmt.specs.Written.{setting, element, code_digits, profile_as, with_element, element_as, is_writable}
use Rattle.beep_mgmt.specs.Message.{Says, message_text}
use Rattle.beep_mgmt.specs.Canonical.{is_itself, bare_profile, bare, IsWritten}
use Rattle.beep_mgmt.proofs.BackLemmas.{decimal_spells, number_back, code_back, code-digits}
use Rattle.beep_mgmt.proofs.MessageLemmas.{message_says}
use Rattle.beep_mgmt.proofs.WritableLemmas.{Writable, said_writable}

-- ---- characters that stand for themselves

itself-plain : (c : ℕ) → is_itself c ≡ true → written_text (written_as true c) ≡ c ∷ []
itself-plain c is =
    let amp : (c == 38) ≡ false = grind (arith, nat_tests) in
    let less : (c == 60) ≡ false = grind (arith, nat_tests) in
    let more : (c == 62) ≡ false = grind (arith, nat_tests) in
    let cr : (c == 13) ≡ false = grind (arith, nat_tests) in
    let quote : (c == 39) ≡ false = grind (arith, nat_tests) in
    let tab : (c == 9) ≡ false = grind (arith, nat_tests) in
    let lf : (c == 10) ≡ false = grind (arith, nat_tests) in
    let small : c < 128 = grind (arith, nat_tests) in
    rw (amp, less, more, cr, quote, tab, lf) (encode_ascii c small)

itself-ascii : (c : ℕ) → is_itself c ≡ true → c < 128
itself-ascii c is = grind (arith, nat_tests)

itself-allowed : (c : ℕ) → is_itself c ≡ true → is_allowed c ≡ true
itself-allowed c is = grind (arith, nat_tests)

-- the text of a value
abbrev value_text : List ℕ → List ℕ
value_text value = flat_map written_text (map (written_as true) value)

value_text-itself : (cs : List ℕ) → list_all is_itself cs ≡ true → value_text cs ≡ cs
value_text-itself [] are = refl
value_text-itself (c ∷ cs) are =
    ap (λ (x : List ℕ). x ++ value_text cs) (itself-plain c (left_of (is_itself c) _ are)) ∙ ap (λ (x : List ℕ). c ∷ x) (value_text-itself cs (right_of (is_itself c) _ are))

pub all-allowed : (cs : List ℕ) → list_all is_itself cs ≡ true → list_all is_allowed cs ≡ true
all-allowed [] are = refl
all-allowed (c ∷ cs) are = both _ _ (itself-allowed c (left_of (is_itself c) _ are)) (all-allowed cs (right_of (is_itself c) _ are))

pub all-ascii : (cs : List ℕ) → list_all is_itself cs ≡ true → IsAscii cs
all-ascii [] are i = omega arith
all-ascii (c ∷ cs) are zero = itself-ascii c (left_of (is_itself c) _ are)
all-ascii (c ∷ cs) are (suc i) = all-ascii cs (right_of (is_itself c) _ are) i

-- ---- digits

digit-itself : (c : ℕ) → is_digit c ≡ true → is_itself c ≡ true
digit-itself c is = grind (arith, nat_tests)

digits-itself : (ds : List ℕ) → list_all is_digit ds ≡ true → list_all is_itself ds ≡ true
digits-itself [] are = refl
digits-itself (d ∷ ds) are = both _ _ (digit-itself d (left_of (is_digit d) _ are)) (digits-itself ds (right_of (is_digit d) _ are))

decimal-itself : (n : ℕ) → n < 2 ^ 32 → list_all is_itself (decimal n) ≡ true
decimal-itself n small = digits-itself (decimal n) (decimal_spells n (omega arith)).0

code-itself : (n : ℕ) → n ≤ 999 → list_all is_itself (code_digits n) ≡ true
code-itself n small = digits-itself (code_digits n) (code-digits n small)

-- ---- the texts

-- a message is a header and the text of its element
message_is : (payload text : List ℕ) (form : Form) → payload ≡ mime_header ++ text → IsWritten text form → payload ≡ message_text form
message_is payload text form is written =
    is ∙ ap (λ (x : List ℕ). mime_header ++ x) written.text_is ∙ sym (append_assoc mime_header (element_text (element_as form)) (13 ∷ 10 ∷ []))

says_so : (payload text : List ℕ) (form : Form) → payload ≡ mime_header ++ text → IsWritten text form → Says payload form
says_so payload text form is written =
    subst (λ (x : List ℕ). Says x form) (sym (message_is payload text form is written)) (message_says form (canonical-body (element_as form) written.lawful) written.said)

writable_so : (text : List ℕ) (form : Form) → IsWritten text form → is_writable form ≡ true
writable_so text form written = subst Writable written.said (said_writable (element_as form) written.lawful)

-- the same of what the code answers
pub said_in : (payload text : List ℕ) → payload ≡ mime_header ++ text → (result : Result (Option Mgmt) NoMemory)
    → IfOk result (λ said. IfSome said (λ m. IsWritten text (form_of m))) → IfOk result (λ said. IfSome said (λ m. Says payload (form_of m)))
said_in payload text is (Ok None) written = tt
said_in payload text is (Ok (Some m)) written = says_so payload text (form_of m) is written
said_in payload text is (Err e) written = tt

pub writable_in : (text : List ℕ) (result : Result (Option Mgmt) NoMemory)
    → IfOk result (λ said. IfSome said (λ m. IsWritten text (form_of m))) → IfOk result (λ said. IfSome said (λ m. is_writable (form_of m) ≡ true))
writable_in text (Ok None) written = tt
writable_in text (Ok (Some m)) written = writable_so text (form_of m) written
writable_in text (Err e) written = tt

-- ---- elements

abbrev close_element : List ℕ → List ℕ → Tree
close_element n c = element (codes "close") (setting (codes "number") n ∷ setting (codes "code") c ∷ []) nothing

abbrev start_element : List ℕ → List ℕ → Tree
start_element n u = element (codes "start") (setting (codes "number") n ∷ []) (with_child nothing (codes "profile") (setting (codes "uri") u ∷ []) nothing)

abbrev profile_element : List ℕ → Tree
profile_element u = element (codes "profile") (setting (codes "uri") u ∷ []) nothing

close_joined : (v w m : List ℕ) → ((((v ++ 39 ∷ []) ++ ((m ++ (w ++ 39 ∷ [])) ++ [])) ++ 32 ∷ []) ++ 47 ∷ 62 ∷ []) ++ 13 ∷ 10 ∷ []
    ≡ v ++ ((39 ∷ m) ++ (w ++ 39 ∷ 32 ∷ 47 ∷ 62 ∷ 13 ∷ 10 ∷ []))
close_joined v w m = simp (append_assoc, append-nil)

close_text : (n c : List ℕ) → element_text (close_element n c) ++ 13 ∷ 10 ∷ [] ≡ codes "<close number='" ++ (value_text n ++ (codes "' code='" ++ (value_text c ++ codes "' />\r\n")))
close_text n c = ap (λ (x : List ℕ). codes "<close number='" ++ x) (close_joined (value_text n) (value_text c) (codes " code='"))

start_joined : (v u p e q g b c l : List ℕ) → (((((((v ++ q) ++ []) ++ []) ++ ((g ++ p) ++ ((((u ++ q) ++ []) ++ b) ++ c))) ++ e) ++ []) ++ g) ++ l
    ≡ v ++ (q ++ (g ++ (((p ++ u) ++ (q ++ (b ++ c))) ++ (e ++ (g ++ l)))))
start_joined v u p e q g b c l = simp (append_assoc, append-nil)

start_text : (n u : List ℕ) → element_text (start_element n u) ++ 13 ∷ 10 ∷ [] ≡ codes "<start number='" ++ (value_text n ++ (codes "'>" ++ (bare (value_text u) ++ codes "</start>\r\n")))
start_text n u = ap (λ (x : List ℕ). codes "<start number='" ++ x) (start_joined (value_text n) (value_text u) (codes "<profile uri='") (codes "</start") (39 ∷ []) (62 ∷ []) (32 ∷ []) (47 ∷ 62 ∷ []) (13 ∷ 10 ∷ []))

chosen_joined : (u : List ℕ) → ((((u ++ 39 ∷ []) ++ []) ++ 32 ∷ []) ++ 47 ∷ 62 ∷ []) ++ 13 ∷ 10 ∷ [] ≡ (u ++ 39 ∷ 32 ∷ 47 ∷ 62 ∷ []) ++ 13 ∷ 10 ∷ []
chosen_joined u = simp (append_assoc, append-nil)

chosen_text : (u : List ℕ) → element_text (profile_element u) ++ 13 ∷ 10 ∷ [] ≡ bare (value_text u) ++ codes "\r\n"
chosen_text u = ap (λ (x : List ℕ). codes "<profile uri='" ++ x) (chosen_joined (value_text u))

attrs_one : (name value : List ℕ) → is_name name ≡ true → list_all is_itself value ≡ true → are_attrs (setting name value ∷ []) ≡ true
attrs_one name value named vi = rw (named, all-allowed value vi) refl

attrs_two : (n c : List ℕ) → list_all is_itself n ≡ true → list_all is_itself c ≡ true → are_attrs (setting (codes "number") n ∷ setting (codes "code") c ∷ []) ≡ true
attrs_two n c ni ci = rw (all-allowed n ni, all-allowed c ci) refl

-- ---- what they say

pub okay_written : (text : List ℕ) → text ≡ codes "<ok />\r\n" → IsWritten text okay
okay_written text is = record {
  text_is = is;
  lawful = record { named = refl; attrs = refl; items = refl; nested = omega arith };
  said = refl;
}

pub close_written : (text : List ℕ) (n c : ℕ) → n < 2 ^ 32 → c ≤ 999
    → text ≡ codes "<close number='" ++ (decimal n ++ (codes "' code='" ++ (code_digits c ++ codes "' />\r\n"))) → IsWritten text (close n c [])
close_written text n c small few is =
    let ni = decimal-itself n small in
    let ci = code-itself c few in
    record {
      text_is = is ∙ sym (close_text (decimal n) (code_digits c) ∙ rw (value_text-itself (decimal n) ni, value_text-itself (code_digits c) ci) refl);
      lawful = record { named = refl; attrs = attrs_two (decimal n) (code_digits c) ni ci; items = refl; nested = omega arith };
      said = ap (λ x. close_with x (code_said (Some (code_digits c))) (Some [])) (number_back n small) ∙ ap (λ x. close_with (Some n) x (Some [])) (code_back c few);
    }

-- what is written of a value, by its element
written_of : (text : List ℕ) (form : Form) (e : Tree) → element_as form ≡ e → text ≡ element_text e ++ 13 ∷ 10 ∷ [] → IsElement e → form_said e ≡ Some form → IsWritten text form
written_of text form e same is lawful said = record {
  text_is = is ∙ ap (λ (x : Tree). element_text x ++ 13 ∷ 10 ∷ []) (sym same);
  lawful = subst IsElement (sym same) lawful;
  said = ap form_said same ∙ said;
}

no_octets : IsAscii []
no_octets = all-ascii [] refl

-- no octets are a text of no characters
no_content : (u : List ℕ) → profile_as u [] ≡ profile_element u
no_content u = rw (is_utf8-from_IsUtf8 [] (IsUtf8-from_ascii [] no_octets), chars-IsAscii [] no_octets) refl

start_of : (n : ℕ) (u : List ℕ) → element_as (start n None (bare_profile u ∷ [])) ≡ start_element (decimal n) u
start_of n u = ap (λ (x : Tree). element (codes "start") (setting (codes "number") (decimal n) ∷ []) (with_element nothing x)) (no_content u)

pub start_written : (text : List ℕ) (n : ℕ) (u : List ℕ) (ps : List PlainProfile) → n < 2 ^ 32 → list_all is_itself u ≡ true → ps ≡ bare_profile u ∷ []
    → text ≡ codes "<start number='" ++ (decimal n ++ (codes "'>" ++ (bare u ++ codes "</start>\r\n"))) → IsWritten text (start n None ps)
start_written text n u ps small ui one is =
    let ni = decimal-itself n small in
    let text_is = is ∙ sym (start_text (decimal n) u ∙ rw (value_text-itself (decimal n) ni, value_text-itself u ui) refl) in
    let lawful : IsElement (start_element (decimal n) u) = record { named = refl; attrs = attrs_one (codes "number") (decimal n) refl ni; items = rw (all-allowed u ui) refl; nested = omega arith } in
    let said = ap (λ x. start_with x None (Some (bare_profile u ∷ []))) (number_back n small) in
    subst (λ (x : List PlainProfile). IsWritten text (start n None x)) (sym one) (written_of text (start n None (bare_profile u ∷ [])) (start_element (decimal n) u) (start_of n u) text_is lawful said)

pub chosen_written : (text u : List ℕ) (p : PlainProfile) → list_all is_itself u ≡ true → p ≡ bare_profile u → text ≡ bare u ++ codes "\r\n" → IsWritten text (chosen p)
chosen_written text u p ui one is =
    let text_is = is ∙ sym (chosen_text u ∙ rw (value_text-itself u ui) refl) in
    let lawful : IsElement (profile_element u) = record { named = refl; attrs = attrs_one (codes "uri") u refl ui; items = refl; nested = omega arith } in
    subst (λ (x : PlainProfile). IsWritten text (chosen x)) (sym one) (written_of text (chosen (bare_profile u)) (profile_element u) (no_content u) text_is lawful refl)
