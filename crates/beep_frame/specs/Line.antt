-- What one octet does to a line: the decoder's step, for its proofs alone.
-- No contract of a public call cites it: what a line means is its text (Spelling).
use Rattle.std.specs.Prelude.{◌≡◌, ℕ, ◌+◌, ◌==◌, Option, Some, None, List, length, nat_lt, if◌then◌else◌, slice_index, slice_index_or, slice_set, replicate}
use Rattle.beep_frame.specs.declared.kind.Kind.{Kind}
use Rattle.beep_frame.specs.declared.head.Head.{Head}
use Rattle.beep_frame.specs.declared.seq.Seq.{Seq}
use Rattle.beep_frame.specs.declared.line.Keyword.{Keyword}
use Rattle.beep_frame.specs.declared.line.Part.{Part}
use Rattle.beep_frame.specs.declared.line.PartTurn.{PartTurn}
use Rattle.beep_frame.specs.declared.finder.Found.{Found}
use Rattle.beep_frame.specs.declared.line.Line.{Line}
use Rattle.beep_frame.specs.Frame.{head_of}
use Rattle.beep_frame.specs.Machine.{parts_of, keyword_by, part_turn}

-- where the octets since the last whole frame lead: into a line, to its end, or nowhere
pub data Turn : Type 0 where
  at_line : Line → Turn
  at_head : Head → Turn
  at_seq : Seq → Turn
  dead : Turn

-- a line of which no octet has come
abbrev pub line_start : Line
line_start = record { keyword = Keyword.Seq; at = 0; number = None; values = replicate 12 0 }

-- what was found in a line, and the line after it, are where its octets lead
abbrev pub IsTurn : Found → Line → Turn → Type 0
IsTurn Found.More line turn = at_line line ≡ turn
IsTurn (Found.Head head) line turn = at_head head ≡ turn
IsTurn Found.Frame line turn = ⊥
IsTurn (Found.Seq seq) line turn = at_seq seq ≡ turn
IsTurn Found.BadLine line turn = dead ≡ turn
IsTurn Found.BadTrailer line turn = ⊥

abbrev pub begun_by : Option Keyword → Line → Turn
begun_by (Some keyword) line = at_line (record line { keyword = keyword; at = 1 })
begun_by None line = dead

-- the first octet
abbrev pub begun : Line → ℕ → Turn
begun line c = begun_by (keyword_by c) line

-- the answer number among the values of an ANS
abbrev pub ansno_of_line : Kind → List ℕ → ℕ
ansno_of_line Kind.Msg values = 0
ansno_of_line Kind.Rpy values = 0
ansno_of_line Kind.Err values = 0
ansno_of_line Kind.Ans values = slice_index values 10
ansno_of_line Kind.Nul values = 0

-- the header with a whole line's values
abbrev pub head_of_line : Kind → List ℕ → Head
head_of_line kind v =
    head_of kind (slice_index v 4) (slice_index v 5) (slice_index v 6 == 42) (slice_index v 8)
    (slice_index v 9) (ansno_of_line kind v)

-- the SEQ with a whole line's values
abbrev pub seq_of_line : List ℕ → Seq
seq_of_line v =
    record { channel = slice_index v 4; ackno = slice_index v 5; window = slice_index v 6 }

abbrev pub ended : Keyword → List ℕ → Turn
ended (Keyword.Data kind) values = at_head (head_of_line kind values)
ended Keyword.Seq values = at_seq (seq_of_line values)

-- the next part is whole, of so many
abbrev pub completed : Line → ℕ → ℕ → Turn
completed line value count =
    let values = slice_set line.values line.at value in
    if nat_lt (line.at + 1) count
    then at_line (record line { at = line.at + 1; number = None; values = values })
    else ended line.keyword values

abbrev pub after_part : PartTurn → Line → ℕ → Turn
after_part (PartTurn.Digit n) line count = at_line (record line { number = Some n })
after_part (PartTurn.Whole value) line count = completed line value count
after_part PartTurn.Dead line count = dead

-- the next octet, of a line with these parts
abbrev pub parts_turn : List Part → Line → ℕ → Turn
parts_turn parts line c =
    if nat_lt line.at (length parts)
    then after_part (part_turn (slice_index_or parts line.at (Part.Octet 0)) line.number c) line
    (length parts)
    else dead

-- the next octet
unfoldable pub line_turn : Line → ℕ → Turn
line_turn line c = if line.at == 0 then begun line c else parts_turn (parts_of line.keyword) line c
