-- What is due in a live life, by its history and by what was given and taken in it (RFC 3081,
-- section 3.1).
-- The code asks each channel what it holds.
use Rattle.std.specs.Prelude.{ℕ, ◌+◌, ◌-◌, nat_lt, Bool, true, false, List, [], ◌∷◌, length, drop}
use Rattle.beep_history.specs.declared.journal.Side.{Side}
use Rattle.beep_history.specs.Journal.{Item}
use Rattle.beep_history.specs.Marks.{Mark, octet, end, marks, passed_octets}
use Rattle.beep_history.specs.Windows.{greatest_edge, open_now}
use Rattle.beep_seq.specs.Due.{is_seq_due}

-- ---- a SEQ

-- the octets among marks
abbrev pub octets_among : List Mark → ℕ
octets_among [] = 0
octets_among (octet tag value ∷ others) = octets_among others + 1
octets_among (end tag ∷ others) = octets_among others

-- the octets that were taken of a life: those that arrived, but for the ones whose marks were not
-- taken
abbrev pub octets_taken : List Mark → List Item → ℕ
octets_taken taken past =
    passed_octets Side.Received past
    - octets_among (drop (length taken) (marks Side.Received past))

-- a SEQ is due: it would open at least half of a window of this size
abbrev pub has_due : ℕ → List Mark → List Item → Bool
has_due size taken past =
    is_seq_due size (octets_taken taken past) (greatest_edge Side.Received past)

-- ---- a frame

-- the first of these marks can go: it ends a message, or so many octets are open
abbrev pub may_go : ℕ → List Mark → Bool
may_go open_octets [] = false
may_go open_octets (octet tag value ∷ others) = nat_lt 0 open_octets
may_go open_octets (end tag ∷ others) = true

-- a frame can go: a mark is unsent, and the first unsent message has no octet left or the window of
-- the peer is open
abbrev pub has_ready : List Mark → List Item → Bool
has_ready given past =
    may_go (open_now Side.Sent past) (drop (length (marks Side.Sent past)) given)
