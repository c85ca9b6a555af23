-- What is due to go out: the SEQ of a channel, and what a channel has to send that may go (RFC
-- 3081, section 3.1).
-- The code keeps the windows of live channels; here each word looks back over the journal.
-- How much was taken of each channel and what it has unsent are the caller's, since no journal has
-- them.
use Rattle.std.specs.Prelude.{◌≡◌, ℕ, nat_lt, Bool, true, false, ◌&&◌, if◌then◌else◌, List, [], ◌∷◌, Option, None, Some}
use Rattle.beep_frame.specs.declared.seq.Seq.{Seq}
use Rattle.beep_seq.specs.Receiving.{due_seq}
use Rattle.beep_history.specs.declared.journal.Side.{Side}
use Rattle.beep_history.specs.Journal.{Item}
use Rattle.beep_history.specs.Marks.{Mark, octet, end}
use Rattle.beep_history.specs.Windows.{open_now, arrivals}
use Rattle.beep_journal.specs.Life.{history, is_there}
use Rattle.beep_decide.specs.Asks.{is_greeted}

-- the SEQ of a channel with this ackno and window, where there is one
abbrev pub seq_of : ℕ → Option (ℕ × ℕ) → Option Seq
seq_of number None = None
seq_of number (Some (ackno, window)) =
    Some (record { channel = number; ackno = ackno; window = window })

-- the SEQ that is due for a channel, of an end with a window of this size that took so many of its
-- octets: once the own greeting has passed, where it opens at least half a window
abbrev pub due : ℕ → ℕ → ℕ → List Item → Option Seq
due size taken number journal =
    if is_there number journal && is_greeted journal
    then seq_of number (due_seq size (arrivals Side.Received taken (history number journal)))
    else None

-- of these marks the first may go, where so many octets are open: an end always, an octet where one
-- is open
abbrev pub may_go : ℕ → List Mark → Bool
may_go open_octets [] = false
may_go open_octets (octet tag value ∷ marks) = nat_lt 0 open_octets
may_go open_octets (end tag ∷ marks) = true

-- the octets that a channel may send
abbrev pub open_of : ℕ → List Item → ℕ
open_of number journal = open_now Side.Sent (history number journal)

-- a channel that is there has something unsent that may go
abbrev pub is_ready : ℕ → List Mark → List Item → Bool
is_ready number unsent journal = is_there number journal && may_go (open_of number journal) unsent

-- nothing is due: no SEQ, and no channel is ready
pub record NothingDue (size : ℕ) (taken : ℕ → ℕ) (unsent : ℕ → List Mark) (journal : List Item)
    : Type 0 where
  pub no_seq : (number : ℕ) → due size (taken number) number journal ≡ None
  pub none_ready : (number : ℕ) → is_ready number (unsent number) journal ≡ false
