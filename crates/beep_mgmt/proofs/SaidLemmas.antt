-- What a message says as a function is what it says.
use Rattle.std.proofs.Common.{◌≡◌, ◌≢◌, ◌↔◌, ℕ, ◌≤◌, Bool, true, false, nat_le, Option, Some, None, option_and_then, List, [], ◌∷◌, codes, length, if◌then◌else◌, refl, ap, ◌∙◌, le-leb, leb-true, Result, Ok, Err, IfErr}
use Rattle.beep_text.specs.declared.limits.TheConstants.{MAX_TEXT}
use Rattle.beep_text.specs.Tree.{Tree}
use Rattle.beep_text.specs.Elements.{IsBody}
use Rattle.beep_text.specs.Machine.{has_room}
use Rattle.beep_text.specs.Said.{element_said}
use Rattle.beep_mgmt.specs.declared.read.MgmtError.{MgmtError}
use Rattle.beep_mgmt.specs.declared.profile.Encoding.{Encoding}
use Rattle.beep_mgmt.specs.Form.{Form, greeting, start}
use Rattle.beep_mgmt.specs.Said.{form_said}
use Rattle.beep_mime.specs.Split.{body_of}
use Rattle.beep_mgmt.specs.Message.{Says, RefusesMessage, message_said, message_text}

abbrev pub ElementSaid : Type 0
ElementSaid = (body : List ℕ) (e : Tree) → (element_said body ≡ Some e) ↔ IsBody body e

in_element : ElementSaid → (payload : List ℕ) (form : Form) (o : Option Tree) → element_said (body_of payload) ≡ o → option_and_then form_said o ≡ Some form → Says payload form
in_element law payload form None is said = absurd (cc said)
in_element law payload form (Some e) is said = record { element = e; body = (law (body_of payload) e).0 is; form_is = said }

within : (payload : List ℕ) (form : Form) (x : Bool) (o : Option Form) → nat_le (length payload) MAX_TEXT ≡ x → (if x then o else None) ≡ Some form → (length payload ≤ MAX_TEXT) × (o ≡ Some form)
within payload form false o test said = absurd (cc said)
within payload form true o test said = (leb-true _ _ test, said)

said_message : ElementSaid → (payload : List ℕ) (form : Form) → message_said payload ≡ Some form → (length payload ≤ MAX_TEXT) × Says payload form
unfolding message_said
said_message law payload form said =
    let both = within payload form (nat_le (length payload) MAX_TEXT) _ refl said in
    (both.0, in_element law payload form (element_said (body_of payload)) refl both.1)

message_is_said : ElementSaid → (payload : List ℕ) (form : Form) → (length payload ≤ MAX_TEXT) × Says payload form → message_said payload ≡ Some form
unfolding message_said
message_is_said law payload form says =
    let short = le-leb (length payload) MAX_TEXT says.0 in
    let element = (law (body_of payload) says.1.element).1 says.1.body in
    ap (λ x. if x then option_and_then form_said (element_said (body_of payload)) else None) short ∙ ap (option_and_then form_said) element ∙ says.1.form_is

pub said-message : ElementSaid → (payload : List ℕ) (form : Form) → (message_said payload ≡ Some form) ↔ ((length payload ≤ MAX_TEXT) × Says payload form)
said-message law payload form = (said_message law payload form, message_is_said law payload form)

-- ---- what the reader's answers give

-- a message that is refused, out of memory apart, says nothing
none_said : (payload : List ℕ) → ((form : Form) → message_said payload ≡ Some form → ⊥) → (o : Option Form) → message_said payload ≡ o → o ≡ None
none_said payload never None is = refl
none_said payload never (Some form) is = absurd (never form is)

abbrev pub MessageSaid : Type 0
MessageSaid = (payload : List ℕ) (form : Form) → (message_said payload ≡ Some form) ↔ ((length payload ≤ MAX_TEXT) × Says payload form)

abbrev pub IsRead : Type 0
IsRead = (payload : List ℕ) (form : Form) (error : MgmtError) → Says payload form → length payload ≤ MAX_TEXT → RefusesMessage payload error → error ≡ MgmtError.NoMemory

unsaid : MessageSaid → IsRead → (payload : List ℕ) (error : MgmtError) → RefusesMessage payload error → error ≢ MgmtError.NoMemory → message_said payload ≡ None
unsaid law read payload error refused other =
    none_said payload (λ form said. (let known = (law payload form).0 said in other (read payload form error known.1 known.0 refused))) (message_said payload) refl

pub unsaid_where : {T : Type 0} → MessageSaid → IsRead → (payload : List ℕ) (r : Result T MgmtError) → IfErr r (λ error. RefusesMessage payload error)
    → IfErr r (λ error. error ≢ MgmtError.NoMemory → message_said payload ≡ None)
unsaid_where law read payload (Ok m) refused = tt
unsaid_where law read payload (Err error) refused = unsaid law read payload error refused

-- ---- examples

abbrev start_one : Form
start_one = start 1 None (record { uri = codes "urn:x"; encoding = Encoding.Plain; content = []; readable = true } ∷ [])

-- the message that is written of a greeting without profiles
greeting_example : message_said (message_text (greeting None None [])) ≡ Some (greeting None None [])
unfolding message_said element_said
greeting_example = refl

-- a start with one profile
start_example : message_said (codes "<start number='1'><profile uri='urn:x' /></start>") ≡ Some start_one
unfolding message_said element_said has_room
start_example = refl
