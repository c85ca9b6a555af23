-- What one more part does to what an element says, for the code that goes from part to part; proofs
-- alone need it.
use Rattle.std.specs.Prelude.{ℕ, Bool, false, Option, Some, None, List, encode_utf8_all, if◌then◌else◌}
use Rattle.std.specs.List.{list_all}
use Rattle.beep_octets.specs.Held.{Held}
use Rattle.beep_chars.specs.Characters.{is_space}
use Rattle.beep_text.specs.Canonical.{element_text}
use Rattle.beep_text.specs.declared.element.Item.{Item}
use Rattle.beep_text.specs.declared.read.TextError.{TextError}
use Rattle.beep_mgmt.specs.declared.read.MgmtError.{MgmtError}
use Rattle.beep_mgmt.specs.Form.{PlainProfile}
use Rattle.beep_mgmt.specs.Said.{with_profile, profile_said}

-- the content of a part
abbrev pub part_text : Item → List ℕ
part_text (Item.Chars cs) = encode_utf8_all cs
part_text (Item.Child e) = element_text e

-- the profiles with one more part after them
abbrev pub with_part : Option (List PlainProfile) → Item → Option (List PlainProfile)
with_part profiles (Item.Chars cs) = if list_all is_space cs then profiles else None
with_part profiles (Item.Child e) = with_profile profiles (profile_said e)

-- the part is white space
abbrev pub is_blank_part : Item → Bool
is_blank_part (Item.Chars cs) = list_all is_space cs
is_blank_part (Item.Child e) = false

-- the octets of a list that may be absent
abbrev pub octets_in : Option Held → Option (List ℕ)
octets_in None = None
octets_in (Some held) = Some held.octets

-- the refusal of a message whose body is refused so
abbrev pub error_of : TextError → MgmtError
error_of (TextError.Malformed q) = MgmtError.Malformed q
error_of (TextError.Entity p) = MgmtError.Entity p
error_of TextError.TooLong = MgmtError.TooLong
error_of TextError.NoMemory = MgmtError.NoMemory
