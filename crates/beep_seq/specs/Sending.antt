-- What a sender counts in one life: the octets sent, those of them that were acknowledged, and the
-- last window
-- (RFC 3081, section 3.1). A history of items gives these counts (beep_history, Windows).
-- The code keeps the last ackno as a number on the wire and the octets sent since, never a count
-- from the beginning.
use Rattle.std.specs.Prelude.{◌≡◌, ℕ, ◌+◌, ◌<◌}
use Rattle.beep_octets.specs.Numbers.{numbers_32}
use Rattle.beep_seq.specs.declared.limits.TheConstants.{INITIAL_WINDOW}
use Rattle.beep_seq.specs.Wire.{wire_number, count_from}
use Rattle.beep_seq.specs.Due.{open_octets}

-- the octets that were sent, those that the peer has acknowledged, and the window that its last SEQ
-- had
pub record Departures : Type 0 where
  pub sent : ℕ
  pub acknowledged : ℕ
  pub window : ℕ

-- before anything happened
abbrev pub no_departures : Departures
no_departures = record { sent = 0; acknowledged = 0; window = INITIAL_WINDOW }

-- once a SEQ with this ackno and window is obeyed
abbrev pub after_seq : Departures → ℕ → ℕ → Departures
after_seq counts ackno window =
    record counts { acknowledged = count_from counts.acknowledged ackno; window = window }

-- the octets that may be sent
abbrev pub open_after : Departures → ℕ
open_after counts = open_octets counts.acknowledged counts.window counts.sent

-- what a contract sees of a sender's window
pub record Sender : Type 0 where
  pub last_ackno : ℕ
  pub unacked : ℕ
  pub room : ℕ

-- the window is what these counts make of it; fewer than 2^32 octets wait, so a number names one of
-- their counts
pub record IsSender (window : Sender) (counts : Departures) : Type 0 where
  pub number : window.last_ackno ≡ wire_number counts.acknowledged
  pub waiting : counts.acknowledged + window.unacked ≡ counts.sent
  pub room : window.room ≡ open_after counts
  pub unique : counts.sent < counts.acknowledged + numbers_32
