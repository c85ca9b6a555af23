-- The report of a recorded session: a line for each frame, and at last the counts of both
-- directions (docs/COMMANDS.md).
-- The code writes each line as its frame passes.
use Rattle.std.specs.Prelude.{ℕ, ◌+◌, if◌then◌else◌, List, [], ◌∷◌, ◌++◌, length, codes, Option, None, Some}
use Rattle.std.specs.Fmt.{decimal}
use Rattle.beep_frame.specs.Spelling.{header_line, seq_line}
use Rattle.beep_history.specs.declared.journal.Side.{Side}
use Rattle.beep_history.specs.Journal.{Item, began, passed, told, same_side}
use Rattle.beep_journal.specs.Journal.{Past, Fault}

-- what a line begins with: `<` for a frame that was read, `>` for one that was written
abbrev pub side_mark : Side → List ℕ
side_mark Side.Received = codes "< "
side_mark Side.Sent = codes "> "

-- the line of an item, where it has one: the text of its header or SEQ without CRLF
abbrev pub line_of : Item → List ℕ
line_of (began side head) = []
line_of (passed side head payload) = side_mark side ++ header_line head ++ 10 ∷ []
line_of (told side seq) = side_mark side ++ seq_line seq ++ 10 ∷ []

-- the lines of a journal, in the order in which its items happened
abbrev pub lines : List Item → List ℕ
lines [] = []
lines (item ∷ journal) = lines journal ++ line_of item

-- how many frames and SEQs of a side have passed
abbrev pub frame_count : Side → List Item → ℕ
frame_count side [] = 0
frame_count side (began by head ∷ journal) = frame_count side journal
frame_count side (passed by head payload ∷ journal) =
    if same_side side by then frame_count side journal + 1 else frame_count side journal
frame_count side (told by seq ∷ journal) =
    if same_side side by then frame_count side journal + 1 else frame_count side journal

-- the last line: how many frames arrived and how many were written, and the octets of the
-- unfinished read frame
abbrev pub summary : Past → List ℕ
summary past =
    codes "frames " ++ decimal (frame_count Side.Received past.journal) ++ codes " "
    ++ decimal (frame_count Side.Sent past.journal) ++ codes " left "
    ++ decimal (length (past.rest Side.Received)) ++ 10 ∷ []

-- the last line stands only where no rule was broken
abbrev pub ending : Option Fault → Past → List ℕ
ending None past = summary past
ending (Some fault) past = []

-- the report of a session that a log shows
abbrev pub report : Past → List ℕ
report past = lines past.journal ++ ending past.fault past
