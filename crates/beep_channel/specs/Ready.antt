-- When a frame of a life can go, by its history and by what was given in it (RFC 3080, section 2.1;
-- RFC 3081, section 3.1).
-- The code asks its outbox and its window, and never looks at marks.
use Rattle.std.specs.Prelude.{nat_lt, Bool, true, false, ◌&&◌, ◌||◌, List, [], ◌∷◌, length, drop}
use Rattle.beep_history.specs.declared.journal.Side.{Side}
use Rattle.beep_history.specs.Journal.{Item}
use Rattle.beep_history.specs.Marks.{Mark, octet, end, marks}
use Rattle.beep_history.specs.Windows.{open_now}

-- the marks that were given and are not sent
abbrev pub marks_unsent : List Item → List Mark → List Mark
marks_unsent past given = drop (length (marks Side.Sent past)) given

-- there is a mark
abbrev pub has_mark : List Mark → Bool
has_mark [] = false
has_mark (mark ∷ marks) = true

-- the first message of these marks has no octet left: its end is next
abbrev pub is_end_next : List Mark → Bool
is_end_next [] = false
is_end_next (octet tag value ∷ marks) = false
is_end_next (end tag ∷ marks) = true

-- a mark is unsent, and the first unsent message has no octet left or octets are open
abbrev pub is_due : List Item → List Mark → Bool
is_due past given =
    has_mark (marks_unsent past given)
    && (is_end_next (marks_unsent past given) || nat_lt 0 (open_now Side.Sent past))
