-- The parts of a header's line or a SEQ's, and what one octet does to a part: the decoder's step,
-- for its proofs alone.
-- No contract of a public call cites it: what a line means is its text (Spelling).
use Rattle.std.specs.Prelude.{ℕ, ◌+◌, ◌-◌, ◌*◌, ◌==◌, Bool, ◌&&◌, ◌||◌, if◌then◌else◌, nat_le, Option, Some, None, List, [], ◌∷◌}
use Rattle.beep_octets.specs.Numbers.{numbers_32}
use Rattle.beep_frame.specs.declared.kind.Kind.{Kind}
use Rattle.beep_frame.specs.declared.head.TheConstants.{MAX_NUMBER}
use Rattle.beep_frame.specs.declared.line.Keyword.{Keyword}
use Rattle.beep_frame.specs.declared.line.Part.{Part}
use Rattle.beep_frame.specs.declared.line.PartTurn.{PartTurn}

-- ---- the parts of each line

-- a channel, a message number or a size, and the space after it
abbrev pub number : Part
number = Part.Number MAX_NUMBER 32

-- a number of 32 bits, and the space after it
abbrev pub any : Part
any = Part.Number (numbers_32 - 1) 32

-- the last number of a line, and the CR after it
abbrev pub last : Part
last = Part.Number MAX_NUMBER 13

abbrev pub data_parts : ℕ → ℕ → ℕ → List Part → List Part
data_parts a b c tail =
    Part.Octet a ∷ Part.Octet b ∷ Part.Octet c ∷ Part.Octet 32 ∷ number ∷ number ∷ Part.Flag
    ∷ Part.Octet 32 ∷ any ∷ tail

-- the parts of the line that a keyword begins
abbrev pub parts_of : Keyword → List Part
parts_of (Keyword.Data Kind.Msg) = data_parts 77 83 71 (last ∷ Part.Octet 10 ∷ [])
parts_of (Keyword.Data Kind.Rpy) = data_parts 82 80 89 (last ∷ Part.Octet 10 ∷ [])
parts_of (Keyword.Data Kind.Err) = data_parts 69 82 82 (last ∷ Part.Octet 10 ∷ [])
parts_of (Keyword.Data Kind.Ans) = data_parts 65 78 83 (number ∷ last ∷ Part.Octet 10 ∷ [])
parts_of (Keyword.Data Kind.Nul) = data_parts 78 85 76 (last ∷ Part.Octet 10 ∷ [])
parts_of Keyword.Seq =
    Part.Octet 83 ∷ Part.Octet 69 ∷ Part.Octet 81 ∷ Part.Octet 32 ∷ number ∷ any ∷ last
    ∷ Part.Octet 10 ∷ []

-- the keyword that begins with an octet
abbrev pub keyword_by : ℕ → Option Keyword
keyword_by c =
    if c == 77 then Some (Keyword.Data Kind.Msg)
    else (if c == 82 then Some (Keyword.Data Kind.Rpy)
    else (if c == 69 then Some (Keyword.Data Kind.Err)
    else (if c == 65 then Some (Keyword.Data Kind.Ans)
    else (if c == 78 then Some (Keyword.Data Kind.Nul)
    else (if c == 83 then Some Keyword.Seq else None)))))

-- ---- one octet

-- a digit after the digits of n, of a number of at most max
abbrev pub digit_turn_of : ℕ → ℕ → ℕ → PartTurn
digit_turn_of max n c =
    if (nat_le 48 c && nat_le c 57) && nat_le (n * 10 + (c - 48)) max
    then PartTurn.Digit (n * 10 + (c - 48)) else PartTurn.Dead

-- an octet after the digits so far: the one that ends the number, or a digit that follows no
-- leading zero
abbrev pub number_turn_of : ℕ → ℕ → Option ℕ → ℕ → PartTurn
number_turn_of max end None c = digit_turn_of max 0 c
number_turn_of max end (Some n) c =
    if c == end then PartTurn.Whole n else (if n == 0 then PartTurn.Dead else digit_turn_of max n c)

-- a part of one octet
abbrev pub octet_turn_of : Bool → ℕ → PartTurn
octet_turn_of fits c = if fits then PartTurn.Whole c else PartTurn.Dead

-- what an octet is to a part
abbrev pub part_turn : Part → Option ℕ → ℕ → PartTurn
part_turn (Part.Octet o) n c = octet_turn_of (c == o) c
part_turn Part.Flag n c = octet_turn_of ((c == 42) || (c == 46)) c
part_turn (Part.Number max end) n c = number_turn_of max end n c
