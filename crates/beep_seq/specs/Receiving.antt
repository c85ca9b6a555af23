-- What a receiver counts in one life: the octets that arrived, those of them that were taken, and
-- the greatest edge that it advertised (RFC 3081, section 3.1). A history of items gives these
-- counts (beep_history, Windows).
-- The code keeps the next sequence number and the octets that still fit and that wait, never a
-- count from the beginning.
use Rattle.std.specs.Prelude.{◌≡◌, ℕ, ◌+◌, ◌-◌, ◌*◌, ◌≤◌, nat_le, Option, Some, None, if◌then◌else◌}
use Rattle.beep_seq.specs.declared.limits.TheConstants.{INITIAL_WINDOW, MIN_WINDOW, MAX_WINDOW}
use Rattle.beep_seq.specs.Wire.{wire_number}
use Rattle.beep_seq.specs.Due.{is_seq_due}

-- the octets that arrived, those that were taken, and the greatest edge that was advertised
pub record Arrivals : Type 0 where
  pub received : ℕ
  pub taken : ℕ
  pub edge : ℕ

-- before anything happened
abbrev pub no_arrivals : Arrivals
no_arrivals = record { received = 0; taken = 0; edge = INITIAL_WINDOW }

-- the edge that the full SEQ advertises, of an end with a window of this size: a window past what
-- was taken
abbrev pub full_edge : ℕ → Arrivals → ℕ
full_edge size counts = counts.taken + size

-- the ackno and window of the full SEQ: it acknowledges what arrived, and opens the window up to
-- that edge
abbrev pub full_seq : ℕ → Arrivals → ℕ × ℕ
full_seq size counts = (wire_number counts.received, full_edge size counts - counts.received)

-- the SEQ that is due, if one is
abbrev pub due_seq : ℕ → Arrivals → Option (ℕ × ℕ)
due_seq size counts =
    if is_seq_due size counts.taken counts.edge then Some (full_seq size counts) else None

-- a size that a window may have
pub record IsWindow (size : ℕ) : Type 0 where
  pub least : MIN_WINDOW ≤ size
  pub greatest : size ≤ MAX_WINDOW

-- what a contract sees of a receiver's window
pub record Receiver : Type 0 where
  pub size : ℕ
  pub next : ℕ
  pub room : ℕ
  pub untaken : ℕ

-- the window has this size, and is what these counts make of it
pub record IsReceiver (window : Receiver) (size : ℕ) (counts : Arrivals) : Type 0 where
  pub sized : window.size ≡ size
  pub is_window : IsWindow size
  pub next : window.next ≡ wire_number counts.received
  pub untaken : counts.taken + window.untaken ≡ counts.received
  pub room : counts.received + window.room ≡ counts.edge
  pub within : counts.edge ≤ full_edge size counts

-- ---- by the window alone

-- the ackno and window of the full SEQ
abbrev pub full_of : Receiver → ℕ × ℕ
full_of window = (window.next, window.size - window.untaken)

-- the SEQ that is due, if one is
abbrev pub due_of : Receiver → Option (ℕ × ℕ)
due_of window =
    if nat_le window.size (2 * (window.size - window.room - window.untaken))
    then Some (full_of window) else None
