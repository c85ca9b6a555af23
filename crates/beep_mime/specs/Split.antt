-- Where the body of a message begins: after the lines of its MIME header, where it has one (RFC
-- 3080, section 2.2).
-- The code goes from line to line; here the payload is a list of lines, and the header is the first
-- of them.
-- Choice: lines that continue a header line are skipped with it (docs/DECISIONS.md, "Where the body
-- begins").
use Rattle.std.specs.Prelude.{ℕ, ◌+◌, ◌-◌, Bool, true, false, ◌&&◌, ◌||◌, nat_le, ◌==◌, List, [], ◌∷◌, ◌++◌, length, slice_index, drop, codes, if◌then◌else◌}

-- the last octet is a CR
abbrev pub ends_in_cr : List ℕ → Bool
ends_in_cr line = slice_index line (length line - 1) == 13

-- the lines, each with its CR LF, of octets that follow the beginning of a line
abbrev pub lines_after : List ℕ → List ℕ → List (List ℕ)
lines_after line [] = []
lines_after line (c ∷ rest) =
    if c == 10 && ends_in_cr line then (line ++ c ∷ []) ∷ lines_after [] rest
    else lines_after (line ++ c ∷ []) rest

-- the line begins as a header line: octets from 33 to 126 but no colon, and then a colon; named:
-- one has come
abbrev pub is_header_line : Bool → List ℕ → Bool
is_header_line named [] = false
is_header_line named (c ∷ rest) =
    if c == 58 then named else (nat_le 33 c && nat_le c 126 && is_header_line true rest)

-- the line begins with white space
abbrev pub is_continuation : List ℕ → Bool
is_continuation line = slice_index line 0 == 32 || slice_index line 0 == 9

-- the octets of the lines that stand before the body; within: a header line came before these
abbrev pub header_len : Bool → List (List ℕ) → ℕ
header_len within [] = 0
header_len within (line ∷ lines) =
    if is_header_line false line || (within && is_continuation line)
    then length line + header_len true lines
    else (if length line == 2 then 2 else 0)

-- where the body begins
abbrev pub body_start : List ℕ → ℕ
body_start payload = header_len false (lines_after [] payload)

-- the body: what stands after the header
abbrev pub body_of : List ℕ → List ℕ
body_of payload = drop (body_start payload) payload

-- the header that is written of a message whose body is an element
abbrev pub mime_header : List ℕ
mime_header = codes "Content-Type: application/beep+xml\r\n\r\n"
