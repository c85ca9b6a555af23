-- How much may be sent, which SEQ is bad and which is due, over counts of one life (RFC 3081,
-- section 3.1).
-- The code keeps differences of these counts, never the counts.
use Rattle.std.specs.Prelude.{◌≡◌, ℕ, ◌+◌, ◌-◌, ◌*◌, ◌≤◌, Bool, nat_lt, nat_le}
use Rattle.beep_seq.specs.Wire.{wire_number, count_from}

-- the octets that may be sent, 0 where the window's end lies left of what was sent
abbrev pub open_octets : ℕ → ℕ → ℕ → ℕ
open_octets acknowledged window sent = acknowledged + window - sent

-- some count from the first to the last, both included, has this number on the wire
abbrev pub HasCountBetween : ℕ → ℕ → ℕ → Type 0
HasCountBetween first last number =
    (count : ℕ) × (first ≤ count) × (count ≤ last) × (wire_number count ≡ number)

-- BadAck: the ackno is left of the last ackno or right of the next octet to be sent
abbrev pub breaks_bad_ack : ℕ → ℕ → ℕ → Bool
breaks_bad_ack acknowledged sent ackno = nat_lt sent (count_from acknowledged ackno)

-- a SEQ would open at least half a window
abbrev pub is_seq_due : ℕ → ℕ → ℕ → Bool
is_seq_due size taken edge = nat_le size (2 * (taken + size - edge))
