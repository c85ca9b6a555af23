-- The values of the elements of channel zero (RFC 3080, section 2.3.1), apart from how they lie in
-- memory.
-- The code keeps texts, octets and lists and the room for more of them; here they are plain lists.
use Rattle.std.specs.Prelude.{ℕ, Bool, Option, List, map}
use Rattle.beep_mgmt.specs.declared.profile.Encoding.{Encoding}
use Rattle.beep_mgmt.specs.declared.profile.Profile.{Profile}
use Rattle.beep_mgmt.specs.declared.mgmt.Mgmt.{Mgmt}

-- a profile: its URI, how its content is encoded, the octets of its content, and whether they could
-- be had
pub record PlainProfile : Type 0 where
  pub uri : List ℕ
  pub encoding : Encoding
  pub content : List ℕ
  pub readable : Bool

-- a greeting with features, localization and profiles, a start of a channel, the profile chosen, a
-- close, its ok, or an error
pub data Form : Type 0 where
  greeting : Option (List ℕ) → Option (List ℕ) → List PlainProfile → Form
  start : ℕ → Option (List ℕ) → List PlainProfile → Form
  chosen : PlainProfile → Form
  close : ℕ → ℕ → List ℕ → Form
  okay : Form
  fault : ℕ → List ℕ → Form

-- a profile of the code as a value
abbrev pub plain_profile : Profile → PlainProfile
plain_profile p =
    record { uri = p.uri; encoding = p.encoding; content = p.content.octets; readable = p.readable }

-- an element of the code as a value
abbrev pub form_of : Mgmt → Form
form_of (Mgmt.Greeting features localize profiles) =
    greeting features localize (map plain_profile profiles)
form_of (Mgmt.Start number server profiles) = start number server (map plain_profile profiles)
form_of (Mgmt.Chosen profile) = chosen (plain_profile profile)
form_of (Mgmt.Close number code note) = close number code note
form_of Mgmt.Okay = okay
form_of (Mgmt.Fault code note) = fault code note
