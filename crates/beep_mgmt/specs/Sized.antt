-- What the types of the code say of a value: its number has 32 bits, and the contents of its
-- profiles are octets.
-- Only reading back what was written asks it.
use Rattle.std.specs.Prelude.{ℕ, Bool, true, ◌&&◌, nat_lt}
use Rattle.std.specs.List.{list_all}
use Rattle.beep_octets.specs.Numbers.{numbers_8, numbers_32}
use Rattle.beep_mgmt.specs.Form.{PlainProfile, Form, greeting, start, chosen, close, okay, fault}

-- the number is an octet
abbrev pub is_octet : ℕ → Bool
is_octet c = nat_lt c numbers_8

-- the content of a profile is octets
abbrev pub has_octets : PlainProfile → Bool
has_octets p = list_all is_octet p.content

-- the number has 32 bits
abbrev pub is_u32 : ℕ → Bool
is_u32 number = nat_lt number numbers_32

-- a value of the code is so
abbrev pub is_sized : Form → Bool
is_sized (greeting features localize profiles) = list_all has_octets profiles
is_sized (start number server profiles) = is_u32 number && list_all has_octets profiles
is_sized (chosen profile) = has_octets profile
is_sized (close number code note) = is_u32 number
is_sized okay = true
is_sized (fault code note) = true
