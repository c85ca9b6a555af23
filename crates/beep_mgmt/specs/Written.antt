-- The one element that is written of a value (RFC 3080, section 2.3.1), and which values can be
-- written.
-- The code builds an element part by part; here the element is one value.
-- Choice: a profile is written by its URI and its octets alone, in Base64 only where they are no
-- text (docs/DECISIONS.md, "Written profiles").
use Rattle.std.specs.Prelude.{ℕ, ◌+◌, ◌/◌, ◌%◌, Bool, true, false, ◌&&◌, nat_le, Option, Some, None, List, [], ◌∷◌, ◌++◌, length, fold, codes, chars, if◌then◌else◌}
use Rattle.std.specs.List.{list_all}
use Rattle.std.specs.Str.{is_utf8}
use Rattle.std.specs.Fmt.{decimal}
use Rattle.base64.specs.GeneralPurpose.{encode_of}
use Rattle.base64.specs.Engines.{standard}
use Rattle.beep_chars.specs.Characters.{is_allowed}
use Rattle.beep_text.specs.Tree.{Tree, Items, nothing, with_chars, with_child}
use Rattle.beep_text.specs.declared.attr.Attr.{Attr}
use Rattle.beep_mgmt.specs.declared.profile.Encoding.{Encoding}
use Rattle.beep_mgmt.specs.declared.limits.TheConstants.{MAX_CODE, MAX_CONTENT}
use Rattle.beep_mgmt.specs.Form.{PlainProfile, Form, greeting, start, chosen, close, okay, fault}

-- ---- attributes and characters

-- an attribute
abbrev pub setting : List ℕ → List ℕ → Attr
setting name value = record { name = name; value = value }

-- an attribute that may be absent
abbrev pub optional : List ℕ → Option (List ℕ) → List Attr
optional name None = []
optional name (Some value) = setting name value ∷ []

-- the three digits of a code
abbrev pub code_digits : ℕ → List ℕ
code_digits code = (code / 100 + 48) ∷ (code / 10 % 10 + 48) ∷ (code % 10 + 48) ∷ []

-- characters alone, or nothing where there are none
abbrev pub run : List ℕ → Items
run [] = nothing
run (c ∷ cs) = with_chars nothing (c ∷ cs)

-- an element with these parts
abbrev pub element : List ℕ → List Attr → Items → Tree
element name attrs items = record { name = name; attrs = attrs; items = items }

-- ---- profiles

-- the octets are a text that an element may hold
abbrev pub is_text : List ℕ → Bool
is_text octets = is_utf8 octets && list_all is_allowed (chars octets)

-- how the octets are written
abbrev pub encoding_as : List ℕ → Encoding
encoding_as octets = if is_text octets then Encoding.Plain else Encoding.Base64

-- the element of a profile
abbrev pub profile_as : List ℕ → List ℕ → Tree
profile_as uri octets =
    if is_text octets
    then element (codes "profile") (setting (codes "uri") uri ∷ []) (run (chars octets))
    else element (codes "profile")
    (setting (codes "uri") uri ∷ setting (codes "encoding") (codes "base64") ∷ [])
    (run (encode_of standard octets))

-- an element after others
abbrev pub with_element : Items → Tree → Items
with_element items e = with_child items e.name e.attrs e.items

-- the elements of profiles, one after another
abbrev pub profiles_as : List PlainProfile → Items
profiles_as profiles =
    fold (λ items p. with_element items (profile_as p.uri p.content)) nothing profiles

-- ---- each form

-- the element of a value
abbrev pub element_as : Form → Tree
element_as (greeting features localize profiles) = element (codes "greeting")
    (optional (codes "features") features ++ optional (codes "localize") localize)
    (profiles_as profiles)
element_as (start number server profiles) = element (codes "start")
    (setting (codes "number") (decimal number) ∷ optional (codes "serverName") server)
    (profiles_as profiles)
element_as (chosen profile) = profile_as profile.uri profile.content
element_as (close number code note) = element (codes "close")
    (setting (codes "number") (decimal number) ∷ setting (codes "code") (code_digits code) ∷ [])
    (run note)
element_as okay = element (codes "ok") [] nothing
element_as (fault code note) = element (codes "error")
    (setting (codes "code") (code_digits code) ∷ []) (run note)

-- ---- which values can be written

-- a text that may be absent has allowed characters alone
abbrev pub is_allowed_option : Option (List ℕ) → Bool
is_allowed_option None = true
is_allowed_option (Some text) = list_all is_allowed text

-- a profile's URI has allowed characters alone
abbrev pub is_uri_allowed : PlainProfile → Bool
is_uri_allowed p = list_all is_allowed p.uri

-- the texts have allowed characters alone, and a code has at most three digits
abbrev pub is_writable : Form → Bool
is_writable (greeting features localize profiles) =
    is_allowed_option features && is_allowed_option localize && list_all is_uri_allowed profiles
is_writable (start number server profiles) =
    is_allowed_option server && list_all is_uri_allowed profiles
is_writable (chosen profile) = is_uri_allowed profile
is_writable (close number code note) = nat_le code MAX_CODE && list_all is_allowed note
is_writable okay = true
is_writable (fault code note) = nat_le code MAX_CODE && list_all is_allowed note

-- ---- which values come back

-- the encodings are the same
abbrev pub same_encoding : Encoding → Encoding → Bool
same_encoding Encoding.Plain Encoding.Plain = true
same_encoding Encoding.Plain Encoding.Base64 = false
same_encoding Encoding.Plain Encoding.Other = false
same_encoding Encoding.Base64 Encoding.Plain = false
same_encoding Encoding.Base64 Encoding.Base64 = true
same_encoding Encoding.Base64 Encoding.Other = false
same_encoding Encoding.Other Encoding.Plain = false
same_encoding Encoding.Other Encoding.Base64 = false
same_encoding Encoding.Other Encoding.Other = true

-- a profile that is read as it was written: readable, no more than is kept, and encoded as it is
-- written
abbrev pub comes_back_profile : PlainProfile → Bool
comes_back_profile p =
    p.readable && nat_le (length p.content) MAX_CONTENT
    && same_encoding p.encoding (encoding_as p.content)

-- there is a profile
abbrev pub has_profile : List PlainProfile → Bool
has_profile [] = false
has_profile (p ∷ ps) = true

-- a value that is read as it was written
abbrev pub comes_back : Form → Bool
comes_back (greeting features localize profiles) = list_all comes_back_profile profiles
comes_back (start number server profiles) =
    has_profile profiles && list_all comes_back_profile profiles
comes_back (chosen profile) = comes_back_profile profile
comes_back (close number code note) = true
comes_back okay = true
comes_back (fault code note) = true
