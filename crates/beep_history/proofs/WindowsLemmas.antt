-- What each item adds to the counts of the two windows.
use Rattle.std.proofs.Common.{◌≡◌, ℕ, ◌+◌, max, List, ◌∷◌, refl, ap, ◌∙◌, arith}
use Rattle.beep_frame.specs.declared.head.Head.{Head}
use Rattle.beep_frame.specs.declared.seq.Seq.{Seq}
use Rattle.beep_seq.specs.Sending.{after_seq}
use Rattle.beep_seq.specs.Receiving.{Receiver, IsReceiver, full_edge, full_of}
use Rattle.beep_history.specs.declared.journal.Side.{Side}
use Rattle.beep_history.specs.Journal.{Item, passed, told, other}
use Rattle.beep_history.specs.Marks.{passed_octets}
use Rattle.beep_history.specs.Windows.{departures, greatest_edge, arrivals}

octets-passed : (side : Side) (past : List Item) (head : Head) (payload : List ℕ)
    → passed_octets side (passed side head payload ∷ past) ≡ passed_octets side past + head.size
octets-passed Side.Received past head payload = omega arith
octets-passed Side.Sent past head payload = omega arith

pub departures-passed : (side : Side) (past : List Item) (head : Head) (payload : List ℕ)
    → departures side (passed side head payload ∷ past) ≡ record (departures side past) { sent = passed_octets side past + head.size }
departures-passed side past head payload =
    ap (λ (n : ℕ). record (departures side past) { sent = n }) (octets-passed side past head payload)

pub departures-told : (side : Side) (past : List Item) (seq : Seq)
    → departures side (told (other side) seq ∷ past) ≡ after_seq (departures side past) seq.ackno seq.window
departures-told Side.Received past seq = refl
departures-told Side.Sent past seq = refl

pub arrivals-passed : (side : Side) (taken : ℕ) (past : List Item) (head : Head) (payload : List ℕ)
    → arrivals side taken (passed side head payload ∷ past) ≡ record (arrivals side taken past) { received = passed_octets side past + head.size }
arrivals-passed side taken past head payload =
    ap (λ (n : ℕ). record (arrivals side taken past) { received = n }) (octets-passed side past head payload)

edge-told : (side : Side) (past : List Item) (seq : Seq)
    → greatest_edge side (told (other side) seq ∷ past) ≡ max (greatest_edge side past) (passed_octets side past + seq.window)
edge-told Side.Received past seq = refl
edge-told Side.Sent past seq = refl

-- a full SEQ sets the edge a window past what was taken
pub arrivals-told : (window : Receiver) (size : ℕ) (side : Side) (taken : ℕ) (past : List Item) (seq : Seq)
    → IsReceiver window size (arrivals side taken past) → seq.window ≡ (full_of window).1
    → arrivals side taken (told (other side) seq ∷ past) ≡ record (arrivals side taken past) { edge = full_edge size (arrivals side taken past) }
arrivals-told window size side taken past seq s full =
    ap (λ (n : ℕ). record (arrivals side taken past) { edge = n }) (edge-told side past seq ∙ edge)
  where
    edge : max (greatest_edge side past) (passed_octets side past + seq.window) ≡ taken + size
    edge = omega (arith, s.within, s.untaken, s.sized, s.room, full)
