-- What an end may send in one life, and what may arrive in it, over its history (RFC 3080, section
-- 2.2.1; RFC 3081, section 3.1).
-- The code decides what to send; here each item is judged over those before it.
use Rattle.std.specs.Prelude.{◌≡◌, ℕ, ◌+◌, ◌≤◌, false, List, [], ◌∷◌, length, None, Some}
use Rattle.beep_frame.specs.declared.head.Head.{Head}
use Rattle.beep_frame.specs.declared.head.TheConstants.{MAX_NUMBER}
use Rattle.beep_frame.specs.declared.seq.Seq.{Seq}
use Rattle.beep_seq.specs.Wire.{wire_number}
use Rattle.beep_history.specs.declared.journal.Side.{Side}
use Rattle.beep_history.specs.Journal.{Item, began, passed, told}
use Rattle.beep_history.specs.Marks.{passed_octets}
use Rattle.beep_history.specs.Broken.{broken_rule, under_way}
use Rattle.beep_history.specs.Windows.{greatest_edge, is_bad_ack}

-- ---- what is sent

-- a header may go out: no frame of this end is under way, and it breaks no rule as a sent one, so
-- that its payload is within the octets that the peer left open
pub record IsLawfulHead (past : List Item) (head : Head) : Type 0 where
  pub free : under_way Side.Sent past ≡ None
  pub rules : broken_rule Side.Sent past head ≡ None

-- a frame may end: its header has begun, and its payload has that size
pub record IsLawfulFrame (past : List Item) (head : Head) (payload : List ℕ) : Type 0 where
  pub begun : under_way Side.Sent past ≡ Some head
  pub size : length payload ≡ head.size

-- a SEQ may go out: it says what arrived, and moves no edge to the left
pub record IsLawfulSeq (past : List Item) (seq : Seq) : Type 0 where
  pub ackno : seq.ackno ≡ wire_number (passed_octets Side.Received past)
  pub edge : greatest_edge Side.Received past ≤ passed_octets Side.Received past + seq.window
  pub window : seq.window ≤ MAX_NUMBER

-- an item may come next at a lawful end: one that arrives always may
abbrev pub IsLawfulItem : List Item → Item → Type 0
IsLawfulItem past (began Side.Received head) = Unit {0}
IsLawfulItem past (began Side.Sent head) = IsLawfulHead past head
IsLawfulItem past (passed Side.Received head payload) = Unit {0}
IsLawfulItem past (passed Side.Sent head payload) = IsLawfulFrame past head payload
IsLawfulItem past (told Side.Received seq) = Unit {0}
IsLawfulItem past (told Side.Sent seq) = IsLawfulSeq past seq

-- each item that was sent was lawful as it went out
abbrev pub IsLawful : List Item → Type 0
IsLawful [] = Unit {0}
IsLawful (item ∷ past) = IsLawfulItem past item × IsLawful past

-- ---- what arrives

-- an item that arrives breaks no rule, and comes in its place: a header where no frame of its side
-- is under way, a frame as it had begun. One that is sent breaks nothing here
abbrev pub BreaksNothing : List Item → Item → Type 0
BreaksNothing past (began Side.Received head) =
    (under_way Side.Received past ≡ None) × (broken_rule Side.Received past head ≡ None)
BreaksNothing past (began Side.Sent head) = Unit {0}
BreaksNothing past (passed Side.Received head payload) =
    (under_way Side.Received past ≡ Some head) × (length payload ≡ head.size)
BreaksNothing past (passed Side.Sent head payload) = Unit {0}
BreaksNothing past (told Side.Received seq) = is_bad_ack Side.Received past seq ≡ false
BreaksNothing past (told Side.Sent seq) = Unit {0}

-- no item that arrived broke a rule
abbrev pub NeverBroke : List Item → Type 0
NeverBroke [] = Unit {0}
NeverBroke (item ∷ past) = BreaksNothing past item × NeverBroke past
