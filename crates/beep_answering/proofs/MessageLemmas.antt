-- What is written of a value is its message.
use Rattle.std.proofs.Common.{◌≡◌, ◌↔◌, ◌≤◌, ℕ, true, List, length, Some, Result, Ok, Err, IfOk, IsTrue, sym, subst}
use Rattle.beep_management.specs.beep_text.specs.declared.limits.TheConstants.{MAX_TEXT}
use Rattle.beep_management.specs.beep_mgmt.specs.Form.{Form}
use Rattle.beep_management.specs.beep_mgmt.specs.Message.{Says, message_said, message_text}
use Rattle.beep_management.specs.beep_mgmt.specs.Written.{comes_back}
use Rattle.beep_answering.specs.Sent.{IsMessage}

-- what a message says, as its reader has it
abbrev pub SaysAll : Type 0
SaysAll = (payload : List ℕ) (form : Form) → (message_said payload ≡ Some form) ↔ ((length payload ≤ MAX_TEXT) × Says payload form)

pub is-message : SaysAll → (octets : List ℕ) (form : Form) → octets ≡ message_text form → Says (message_text form) form → length octets ≤ MAX_TEXT → IsMessage octets form
is-message law octets form text says few =
    record { text = text; says = (law (message_text form) form).1 (subst (λ (o : List ℕ). length o ≤ MAX_TEXT) text few, says) }

-- what was written of one value is the message of the same
pub is-message-of : {T E : Type 0} (octets : T → List ℕ) (r : Result T E) (form same : Form) → form ≡ same
    → IfOk r (λ o. octets o ≡ message_text form) → IfOk r (λ o. IsTrue (comes_back form) → length (octets o) ≤ MAX_TEXT → IsMessage (octets o) form)
    → comes_back same ≡ true → length (message_text same) ≤ MAX_TEXT → IfOk r (λ o. IsMessage (octets o) same)
is-message-of octets (Err error) form same is text says back few = tt
is-message-of octets (Ok o) form same is text says back few =
    subst (λ (f : Form). IsMessage (octets o) f) is
    (says (subst (λ (f : Form). IsTrue (comes_back f)) (sym is) back)
    (subst (λ (t : List ℕ). length t ≤ MAX_TEXT) (sym text) (subst (λ (f : Form). length (message_text f) ≤ MAX_TEXT) (sym is) few)))
