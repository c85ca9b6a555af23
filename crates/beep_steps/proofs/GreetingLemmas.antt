-- The greeting of an end that offers one profile is read as what it says.
use Rattle.std.proofs.Common.{◌≡◌, ◌↔◌, ℕ, ◌≤◌, nat_lt, nat_le, Bool, true, false, ◌&&◌, List, [], ◌∷◌, length, Some, codes, refl, ap, arith}
use Rattle.std.specs.List.{list_all}
use Rattle.beep_session.specs.beep_chars.specs.Characters.{is_allowed}
use Rattle.beep_session.specs.beep_chars.proofs.BoolLemmas.{both, right_of}
use Rattle.beep_session.specs.beep_text.specs.declared.limits.TheConstants.{MAX_TEXT}
use Rattle.beep_session.specs.beep_text.specs.Tree.{Tree, nothing}
use Rattle.beep_session.specs.beep_text.specs.Lawful.{are_items}
use Rattle.beep_session.specs.beep_mgmt.specs.Form.{Form}
use Rattle.beep_session.specs.beep_mgmt.specs.Message.{message_text, message_said, Says}
use Rattle.beep_session.specs.beep_mgmt.specs.Said.{form_said}
use Rattle.beep_session.specs.beep_mgmt.specs.Written.{setting, element, element_as, with_element}
use Rattle.beep_session.specs.beep_decide.specs.Decide.{PlainOffer}
use Rattle.beep_session.specs.beep_answering.specs.Sent.{is_uri, greeting_of}
use Rattle.beep_session.specs.beep_answering.proofs.LengthLemmas.{greeting-length, profile-plain}
use Rattle.beep_steps.proofs.TextsLemmas.{reads-back}

-- one offer, which tunes nothing
abbrev one-offer : List ℕ → List PlainOffer
one-offer uri = record { uri = uri; tuning = false } ∷ []

-- the element of a greeting that holds one element, and of a profile without content
abbrev greeting-around : Tree → Tree
greeting-around e = element (codes "greeting") [] (with_element nothing e)

abbrev plain : List ℕ → Tree
plain uri = element (codes "profile") (setting (codes "uri") uri ∷ []) nothing

greeting-is : (uri : List ℕ) → element_as (greeting_of (one-offer uri)) ≡ greeting-around (plain uri)
greeting-is uri = ap greeting-around (profile-plain uri)

-- the URI's characters are allowed, so what the greeting holds is lawful
plain-items : (uri : List ℕ) → is_uri uri ≡ true → are_items (with_element nothing (plain uri)) ≡ true
plain-items uri is = ap (λ (b : Bool). b && true && true && true) (right_of (nat_lt 0 (length uri) && nat_le (length uri) 255) (list_all is_allowed uri) is)

greeting-said : (uri : List ℕ) → form_said (greeting-around (plain uri)) ≡ Some (greeting_of (one-offer uri))
greeting-said uri = refl

greeting-short : (uri : List ℕ) → is_uri uri ≡ true → length (message_text (greeting_of (one-offer uri))) ≤ MAX_TEXT
greeting-short uri is = greeting-length (one-offer uri) (omega arith) (both (is_uri uri) true is refl)

-- the element of a greeting that holds none
abbrev bare : Tree
bare = element (codes "greeting") [] nothing

module _ (law : (payload : List ℕ) (form : Form) → (message_said payload ≡ Some form) ↔ ((length payload ≤ MAX_TEXT) × Says payload form)) where
  -- where the URI may be offered
  pub greeting-read : (uri : List ℕ) → is_uri uri ≡ true
      → message_said (message_text (greeting_of (record { uri = uri; tuning = false } ∷ []))) ≡ Some (greeting_of (record { uri = uri; tuning = false } ∷ []))
  greeting-read uri is =
      reads-back law (greeting_of (one-offer uri)) (greeting-around (plain uri)) (greeting-is uri)
      (record { named = refl; attrs = refl; items = plain-items uri is; nested = omega arith }) (greeting-said uri) (greeting-short uri is)

  -- that of an end that offers nothing
  pub bare-read : message_said (message_text (greeting_of [])) ≡ Some (greeting_of [])
  bare-read = reads-back law (greeting_of []) bare refl (record { named = refl; attrs = refl; items = refl; nested = omega arith }) refl (greeting-length [] (omega arith) refl)
