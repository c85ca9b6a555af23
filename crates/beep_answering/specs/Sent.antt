-- What this end says on channel zero, and how it is written (RFC 3080, section 2.3.1).
use Rattle.std.specs.Prelude.{◌≡◌, ℕ, ◌&&◌, nat_lt, nat_le, Bool, true, List, [], length, map, None, Some}
use Rattle.std.specs.List.{list_all}
use Rattle.beep_management.specs.beep_chars.specs.declared.limits.TheConstants.{MAX_URI}
use Rattle.beep_management.specs.beep_chars.specs.Characters.{is_allowed}
use Rattle.beep_management.specs.beep_mgmt.specs.declared.profile.Encoding.{Encoding}
use Rattle.beep_management.specs.beep_mgmt.specs.Form.{Form, PlainProfile, greeting, close, fault}
use Rattle.beep_management.specs.beep_mgmt.specs.Message.{message_text, message_said}
use Rattle.beep_management.specs.beep_decide.specs.Decide.{PlainOffer, note_of}

-- the URI has 1 to `MAX_URI` characters, all of them allowed
abbrev pub is_uri : List ℕ → Bool
is_uri uri = nat_lt 0 (length uri) && nat_le (length uri) MAX_URI && list_all is_allowed uri

-- an offer as it is listed and chosen: its URI, and no content
abbrev pub plain_listed : PlainOffer → PlainProfile
plain_listed offer = record {
  uri = offer.uri;
  encoding = Encoding.Plain;
  content = [];
  readable = true;
}

-- the greeting of an end with these offers
abbrev pub greeting_of : List PlainOffer → Form
greeting_of offers = greeting None None (map plain_listed offers)

-- a refusal with a code
abbrev pub refusal_of : ℕ → Form
refusal_of code = fault code (note_of code)

-- a close of a number: code 200, and no text
abbrev pub closing_of : ℕ → Form
closing_of number = close number 200 []

-- these octets are the message of a value, and say it
pub record IsMessage (octets : List ℕ) (form : Form) : Type 0 where
  pub text : octets ≡ message_text form
  pub says : message_said (message_text form) ≡ Some form
