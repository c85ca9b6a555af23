-- Which channels an end may start (RFC 3080, section 2.3.1.2).
use Rattle.std.specs.Prelude.{ℕ, ◌==◌, nat_lt, nat_le, ◌%◌, Bool, ◌&&◌}
use Rattle.beep_frame.specs.declared.head.TheConstants.{MAX_NUMBER}
use Rattle.beep_journal.specs.declared.role.Role.{Role}

-- the other role
abbrev pub other_role : Role → Role
other_role Role.Initiator = Role.Listener
other_role Role.Listener = Role.Initiator

-- the initiator starts odd channels, the listener even ones (RFC 3080, section 2.3.1.2)
abbrev pub has_parity : Role → ℕ → Bool
has_parity Role.Initiator number = number % 2 == 1
has_parity Role.Listener number = number % 2 == 0

-- the end of this role may start a channel of this number
abbrev pub may_start : Role → ℕ → Bool
may_start role number = nat_lt 0 number && nat_le number MAX_NUMBER && has_parity role number
