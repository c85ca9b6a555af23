-- The texts that are written of the commonest messages of channel zero; proofs alone need it.
-- The code compares a message with them; it reads any other octet by octet.
use Rattle.std.specs.Prelude.{◌≡◌, ℕ, Bool, ◌&&◌, not, nat_le, ◌==◌, true, Some, List, [], ◌∷◌, ◌++◌, codes}
use Rattle.beep_text.specs.Canonical.{element_text}
use Rattle.beep_text.specs.Lawful.{IsElement}
use Rattle.beep_mgmt.specs.declared.profile.Encoding.{Encoding}
use Rattle.beep_mgmt.specs.Form.{PlainProfile, Form}
use Rattle.beep_mgmt.specs.Said.{form_said}
use Rattle.beep_mgmt.specs.Written.{element_as}

-- the octet is a character that stands for itself in a value
abbrev pub is_itself : ℕ → Bool
is_itself c =
    nat_le 32 c && nat_le c 126
    && not (c == 38) && not (c == 39) && not (c == 60) && not (c == 62)

-- a profile without content
abbrev pub bare_profile : List ℕ → PlainProfile
bare_profile uri = record { uri = uri; encoding = Encoding.Plain; content = []; readable = true }

-- its text
abbrev pub bare : List ℕ → List ℕ
bare uri = codes "<profile uri='" ++ uri ++ codes "' />"

-- the text is that of the element that is written of the value, with CR LF after it, and the
-- element says the value
pub record IsWritten (text : List ℕ) (form : Form) : Type 0 where
  pub text_is : text ≡ element_text (element_as form) ++ 13 ∷ 10 ∷ []
  pub lawful : IsElement (element_as form)
  pub said : form_said (element_as form) ≡ Some form
