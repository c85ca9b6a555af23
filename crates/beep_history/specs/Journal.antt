-- What happens in a session, item by item, each at the octet that completes it (RFC 3080, section
-- 2.2.1).
-- The code keeps no list of what happened.
use Rattle.std.specs.Prelude.{ℕ, Bool, true, false, List, [], ◌∷◌, map}
use Rattle.beep_frame.specs.declared.head.Head.{Head}
use Rattle.beep_frame.specs.declared.seq.Seq.{Seq}
use Rattle.beep_frame.specs.declared.kind.Kind.{Kind}
use Rattle.beep_history.specs.declared.journal.Side.{Side}
use Rattle.beep_history.specs.declared.journal.JournalItem.{JournalItem}
use Rattle.beep_frame.specs.Frame.{head_of}

-- a header has ended, a frame has passed with its payload, or a SEQ has ended. A history is a list
-- of items, the latest first
pub data Item : Type 0 where
  began : Side → Head → Item
  passed : Side → Head → List ℕ → Item
  told : Side → Seq → Item

-- ---- sides

-- two sides are one
abbrev pub same_side : Side → Side → Bool
same_side Side.Received Side.Received = true
same_side Side.Received Side.Sent = false
same_side Side.Sent Side.Received = false
same_side Side.Sent Side.Sent = true

-- the side that answers this one
abbrev pub other : Side → Side
other Side.Received = Side.Sent
other Side.Sent = Side.Received

-- ---- the other end's view

-- an item with its side exchanged
abbrev pub turned : Item → Item
turned (began side head) = began (other side) head
turned (passed side head payload) = passed (other side) head payload
turned (told side seq) = told (other side) seq

-- a history with its sides exchanged
abbrev pub mirrored : List Item → List Item
mirrored past = map turned past

-- ---- items in code

-- the item that a value in code stands for
abbrev pub item_of : JournalItem → Item
item_of (JournalItem.Began side head) = began side head
item_of (JournalItem.Passed side head payload) = passed side head payload.octets
item_of (JournalItem.Told side seq) = told side seq

-- the history that a list of items in code stands for, the latest first in both
abbrev pub history_of : List JournalItem → List Item
history_of items = map item_of items

-- ---- channel zero

-- the header of the request that the greeting answers: number 0, whole, of no octets
abbrev pub implied : Head
implied = head_of Kind.Msg 0 0 false 0 0 0

-- the history that channel zero begins with: each end's implied request, begun and passed (RFC
-- 3080, section 2.3.1)
abbrev pub opening : List Item
opening =
    passed Side.Sent implied []
    ∷ began Side.Sent implied
    ∷ passed Side.Received implied []
    ∷ began Side.Received implied
    ∷ []
