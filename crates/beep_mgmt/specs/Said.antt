-- Which element says which value (RFC 3080, section 2.3.1): each form by its name, its attributes
-- and what it holds.
-- The code goes over the parts of an element; here an element either says one value or none.
-- Choice: unknown attributes are passed over, and between children only white space may stand
-- (docs/DECISIONS.md, "Elements of channel zero").
use Rattle.std.specs.Prelude.{ℕ, Bool, true, false, ◌&&◌, ◌||◌, not, nat_le, nat_lt, ◌==◌, Option, Some, None, List, [], ◌∷◌, ◌++◌, length, slice_index, codes, bytes_eq, encode_utf8_all, if◌then◌else◌}
use Rattle.std.specs.List.{list_all, filter}
use Rattle.std.specs.Result.{result_ok}
use Rattle.beep_octets.specs.Numbers.{numbers_32}
use Rattle.base64.specs.GeneralPurpose.{decode_of}
use Rattle.base64.specs.Engines.{standard}
use Rattle.beep_chars.specs.Characters.{is_space, is_digit}
use Rattle.beep_text.specs.Tree.{Tree, Items, nothing, with_chars, with_child}
use Rattle.beep_text.specs.Elements.{number_of}
use Rattle.beep_text.specs.Lawful.{value_named}
use Rattle.beep_text.specs.Canonical.{element_text, is_nothing}
use Rattle.beep_mgmt.specs.declared.profile.Encoding.{Encoding}
use Rattle.beep_mgmt.specs.declared.limits.TheConstants.{CODE_DIGITS, MAX_CONTENT, MAX_DIGITS}
use Rattle.beep_mgmt.specs.Form.{PlainProfile, Form, greeting, start, chosen, close, okay, fault}

-- ---- numbers

-- the text is a number of 32 bits: `0`, or up to ten digits that don't begin with 0
abbrev pub is_number : List ℕ → Bool
is_number text =
    list_all is_digit text && nat_lt 0 (length text) && nat_le (length text) MAX_DIGITS
    && (length text == 1 || not (slice_index text 0 == 48)) && nat_lt (number_of 10 text) numbers_32

-- the text is a code: three digits
abbrev pub is_code : List ℕ → Bool
is_code text = length text == CODE_DIGITS && list_all is_digit text

-- the number that an attribute says, where there is one
abbrev pub number_said : Option (List ℕ) → Option ℕ
number_said None = None
number_said (Some text) = if is_number text then Some (number_of 10 text) else None

-- the same, or 0 without the attribute
abbrev pub number_or_zero : Option (List ℕ) → Option ℕ
number_or_zero None = Some 0
number_or_zero (Some text) = number_said (Some text)

-- the code that an attribute says, where there is one
abbrev pub code_said : Option (List ℕ) → Option ℕ
code_said None = None
code_said (Some text) = if is_code text then Some (number_of 10 text) else None

-- ---- profiles

-- how the content is encoded, by the attribute `encoding`
abbrev pub encoding_said : Option (List ℕ) → Encoding
encoding_said None = Encoding.Plain
encoding_said (Some name) =
    if bytes_eq name (codes "none") then Encoding.Plain
    else (if bytes_eq name (codes "base64") then Encoding.Base64 else Encoding.Other)

-- the content as it is written: characters in UTF-8, and each child element in canonical text
abbrev pub content_text : Items → List ℕ
content_text nothing = []
content_text (with_chars items cs) = content_text items ++ encode_utf8_all cs
content_text (with_child items name attrs inside) =
    content_text items ++ element_text (record { name = name; attrs = attrs; items = inside })

-- the octets that a content stands for, where it is readable: Base64 without its white space
abbrev pub octets_said : Encoding → List ℕ → Option (List ℕ)
octets_said Encoding.Plain text = Some text
octets_said Encoding.Base64 text =
    result_ok (decode_of standard (filter (λ c. not (is_space c)) text))
octets_said Encoding.Other text = Some text

-- a profile with these octets, where they are readable and no more than are kept
abbrev pub profile_with : List ℕ → Encoding → Option (List ℕ) → PlainProfile
profile_with uri encoding None =
    record { uri = uri; encoding = encoding; content = []; readable = false }
profile_with uri encoding (Some octets) =
    if nat_le (length octets) MAX_CONTENT
    then record { uri = uri; encoding = encoding; content = octets; readable = true }
    else record { uri = uri; encoding = encoding; content = []; readable = false }

-- a profile of this URI, which must be there
abbrev pub profile_of : Option (List ℕ) → Encoding → List ℕ → Option PlainProfile
profile_of None encoding text = None
profile_of (Some uri) encoding text = Some (profile_with uri encoding (octets_said encoding text))

-- the profile that an element says
abbrev pub profile_said : Tree → Option PlainProfile
profile_said e =
    if bytes_eq e.name (codes "profile")
    then profile_of (value_named (codes "uri") e.attrs)
    (encoding_said (value_named (codes "encoding") e.attrs)) (content_text e.items)
    else None

-- one profile after others, where all of them are
abbrev pub with_profile : Option (List PlainProfile) → Option PlainProfile
    → Option (List PlainProfile)
with_profile None profile = None
with_profile (Some profiles) None = None
with_profile (Some profiles) (Some profile) = Some (profiles ++ profile ∷ [])

-- the profiles that stand among white space
abbrev pub profiles_said : Items → Option (List PlainProfile)
profiles_said nothing = Some []
profiles_said (with_chars items cs) = if list_all is_space cs then profiles_said items else None
profiles_said (with_child items name attrs inside) =
    with_profile (profiles_said items)
    (profile_said (record { name = name; attrs = attrs; items = inside }))

-- ---- what else an element holds

-- characters alone
abbrev pub note_said : Items → Option (List ℕ)
note_said nothing = Some []
note_said (with_chars items cs) = if is_nothing items then Some cs else None
note_said (with_child items name attrs inside) = None

-- nothing but white space
abbrev pub is_blank : Items → Bool
is_blank nothing = true
is_blank (with_chars items cs) = is_blank items && list_all is_space cs
is_blank (with_child items name attrs inside) = false

-- ---- each form

abbrev pub greeting_with : Option (List ℕ) → Option (List ℕ) → Option (List PlainProfile)
    → Option Form
greeting_with features localize None = None
greeting_with features localize (Some profiles) = Some (greeting features localize profiles)

-- a start has a number and at least one profile
abbrev pub start_with : Option ℕ → Option (List ℕ) → Option (List PlainProfile) → Option Form
start_with None server profiles = None
start_with (Some number) server None = None
start_with (Some number) server (Some []) = None
start_with (Some number) server (Some (p ∷ ps)) = Some (start number server (p ∷ ps))

abbrev pub chosen_with : Option PlainProfile → Option Form
chosen_with None = None
chosen_with (Some profile) = Some (chosen profile)

abbrev pub close_with : Option ℕ → Option ℕ → Option (List ℕ) → Option Form
close_with None _ _ = None
close_with (Some number) None _ = None
close_with (Some number) (Some code) None = None
close_with (Some number) (Some code) (Some note) = Some (close number code note)

abbrev pub fault_with : Option ℕ → Option (List ℕ) → Option Form
fault_with None _ = None
fault_with (Some code) None = None
fault_with (Some code) (Some note) = Some (fault code note)

-- the value that an element says, by its name
abbrev pub form_said : Tree → Option Form
form_said e =
    if bytes_eq e.name (codes "greeting")
    then greeting_with
    (value_named (codes "features") e.attrs) (value_named (codes "localize") e.attrs)
    (profiles_said e.items)
    else (if bytes_eq e.name (codes "start")
    then start_with
    (number_said (value_named (codes "number") e.attrs))
    (value_named (codes "serverName") e.attrs) (profiles_said e.items)
    else (if bytes_eq e.name (codes "profile") then chosen_with (profile_said e)
    else (if bytes_eq e.name (codes "close")
    then close_with
    (number_or_zero (value_named (codes "number") e.attrs))
    (code_said (value_named (codes "code") e.attrs)) (note_said e.items)
    else (if bytes_eq e.name (codes "ok") then (if is_blank e.items then Some okay else None)
    else (if bytes_eq e.name (codes "error")
    then fault_with (code_said (value_named (codes "code") e.attrs)) (note_said e.items)
    else None)))))
