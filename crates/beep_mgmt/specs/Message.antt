-- What a message of channel zero says, why another says nothing, and the one message that is
-- written of a value (RFC 3080, section 2.3.1).
-- The code splits the payload and reads an element; here the payload says a value or it doesn't.
use Rattle.std.specs.Prelude.{◌≡◌, ℕ, ◌<◌, nat_le, Option, Some, None, option_and_then, List, [], ◌∷◌, ◌++◌, length, if◌then◌else◌}
use Rattle.beep_text.specs.Tree.{Tree}
use Rattle.beep_text.specs.Elements.{IsBody}
use Rattle.beep_text.specs.Said.{element_said}
use Rattle.beep_mime.specs.Split.{body_of, mime_header}
use Rattle.beep_text.specs.Refused.{Refuses}
use Rattle.beep_text.specs.Canonical.{element_text}
use Rattle.beep_text.specs.declared.limits.TheConstants.{MAX_TEXT}
use Rattle.beep_text.specs.declared.read.TextError.{TextError}
use Rattle.beep_mgmt.specs.declared.read.MgmtError.{MgmtError}
use Rattle.beep_mgmt.specs.Form.{Form}
use Rattle.beep_mgmt.specs.Said.{form_said}
use Rattle.beep_mgmt.specs.Written.{element_as}

-- the payload's body says an element, and the element this value
pub record Says (payload : List ℕ) (form : Form) : Type 0 where
  pub element : Tree
  pub body : IsBody (body_of payload) element
  pub form_is : form_said element ≡ Some form

-- the value that a whole message says, as a function for the definitions above; none where it has
-- more octets than are read
unfoldable pub message_said : List ℕ → Option Form
message_said payload =
    if nat_le (length payload) MAX_TEXT
    then option_and_then form_said (element_said (body_of payload)) else None

-- the payload's body says an element, and the element no value
pub record SaysNothing (payload : List ℕ) : Type 0 where
  pub element : Tree
  pub body : IsBody (body_of payload) element
  pub none : form_said element ≡ None

-- why a payload isn't read; places count from the body's first octet
abbrev pub RefusesMessage : List ℕ → MgmtError → Type 0
RefusesMessage payload (MgmtError.Malformed q) = Refuses (body_of payload) (TextError.Malformed q)
RefusesMessage payload (MgmtError.Entity p) = Refuses (body_of payload) (TextError.Entity p)
RefusesMessage payload MgmtError.TooLong = MAX_TEXT < length payload
RefusesMessage payload MgmtError.Shape = SaysNothing payload
RefusesMessage payload MgmtError.NoMemory = Unit {0}

-- the message that is written of a value
abbrev pub message_text : Form → List ℕ
message_text form = mime_header ++ element_text (element_as form) ++ 13 ∷ 10 ∷ []
