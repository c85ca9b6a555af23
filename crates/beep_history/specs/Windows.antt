-- The windows of one life, by its items: what passed and what each SEQ said (RFC 3081, section
-- 3.1).
-- The code of a window keeps small differences of these counts; here each word looks back over the
-- whole history.
use Rattle.std.specs.Prelude.{ℕ, ◌+◌, max, Bool, if◌then◌else◌, List, [], ◌∷◌}
use Rattle.beep_frame.specs.declared.seq.Seq.{Seq}
use Rattle.beep_seq.specs.declared.limits.TheConstants.{INITIAL_WINDOW}
use Rattle.beep_seq.specs.Wire.{count_from}
use Rattle.beep_seq.specs.Due.{breaks_bad_ack}
use Rattle.beep_seq.specs.Sending.{Departures, open_after}
use Rattle.beep_seq.specs.Receiving.{Arrivals}
use Rattle.beep_history.specs.declared.journal.Side.{Side}
use Rattle.beep_history.specs.Journal.{Item, began, passed, told, same_side, other}
use Rattle.beep_history.specs.Marks.{passed_octets}

-- ---- to the sender of a side

-- the octets of a side that the SEQs of the other side have acknowledged, in whole counts
abbrev pub acked_octets : Side → List Item → ℕ
acked_octets side [] = 0
acked_octets side (began by head ∷ past) = acked_octets side past
acked_octets side (passed by head payload ∷ past) = acked_octets side past
acked_octets side (told by seq ∷ past) =
    if same_side by (other side) then count_from (acked_octets side past) seq.ackno
    else acked_octets side past

-- the window of the last SEQ of the other side
abbrev pub last_window : Side → List Item → ℕ
last_window side [] = INITIAL_WINDOW
last_window side (began by head ∷ past) = last_window side past
last_window side (passed by head payload ∷ past) = last_window side past
last_window side (told by seq ∷ past) =
    if same_side by (other side) then seq.window else last_window side past

-- what the sender of a side counts
abbrev pub departures : Side → List Item → Departures
departures side past = record {
  sent = passed_octets side past;
  acknowledged = acked_octets side past;
  window = last_window side past;
}

-- the octets that this side may send, by the last SEQ of the other side
abbrev pub open_now : Side → List Item → ℕ
open_now side past = open_after (departures side past)

-- BadAck: a SEQ of this side acknowledges what the other has not sent, or less than before
abbrev pub is_bad_ack : Side → List Item → Seq → Bool
is_bad_ack side past seq =
    breaks_bad_ack (acked_octets (other side) past) (passed_octets (other side) past) seq.ackno

-- ---- to the receiver of a side

-- the greatest octet count up to which the SEQs of the other side ever allowed this side to send
abbrev pub greatest_edge : Side → List Item → ℕ
greatest_edge side [] = INITIAL_WINDOW
greatest_edge side (began by head ∷ past) = greatest_edge side past
greatest_edge side (passed by head payload ∷ past) = greatest_edge side past
greatest_edge side (told by seq ∷ past) =
    if same_side by (other side)
    then max (greatest_edge side past) (passed_octets side past + seq.window)
    else greatest_edge side past

-- what the receiver of a side counts, where so many of its octets were taken
abbrev pub arrivals : Side → ℕ → List Item → Arrivals
arrivals side taken past = record {
  received = passed_octets side past;
  taken = taken;
  edge = greatest_edge side past;
}

-- ---- the edge of the rule Window

-- the octet count up to which a frame may go. The peer may rely on each edge that was ever
-- advertised to it; this end
-- keeps within what the last SEQ left open, so that an empty frame goes after a window that shrank
abbrev pub window_edge : Side → List Item → ℕ
window_edge Side.Received past = greatest_edge Side.Received past
window_edge Side.Sent past = passed_octets Side.Sent past + open_now Side.Sent past
