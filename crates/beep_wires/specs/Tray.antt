-- What a sink in memory is to a contract, and what one write makes of it.
-- The code keeps its room beside the list that it fills.
use Rattle.std.specs.Prelude.{◌==◌, ◌||◌, ◌++◌, ℕ, ◌-◌, min, Bool, [], List, length, take, if◌then◌else◌}
use Rattle.beep_wires.specs.Counts.{next_count}
use Rattle.beep_wires.specs.Planned.{is_planned}

-- what was written, how many more octets find room, the most that a write takes, the calls that are
-- to fail, and what came of the calls so far
pub record Tray : Type 0 where
  pub written : List ℕ
  pub room : ℕ
  pub piece : ℕ
  pub fails : List ℕ
  pub faults : ℕ
  pub writes : ℕ

-- a sink with this room before its first write
abbrev pub tray_of : ℕ → ℕ → List ℕ → Tray
tray_of room piece fails =
    record { written = []; room = room; piece = piece; fails = fails; faults = 0; writes = 0 }

-- the next write fails: it is planned to, or no room is left
abbrev pub has_fault : Tray → Bool
has_fault t = is_planned t.fails t.writes || (t.room == 0)

-- how many octets a write that doesn't fail takes of this many
abbrev pub taken_count : Tray → ℕ → ℕ
taken_count t offered = min (min t.piece t.room) offered

-- a write that failed counts as a call and as a fault, and took nothing
abbrev pub tray_failed : Tray → Tray
tray_failed t = record t { faults = next_count t.faults; writes = next_count t.writes }

-- a write that took these octets
abbrev pub tray_written : Tray → List ℕ → Tray
tray_written t octets =
    record t {
      written = t.written
          ++ octets;
      room = t.room - length octets;
      writes = next_count t.writes;
    }

-- the sink after a write of these octets
abbrev pub tray_after : Tray → List ℕ → Tray
tray_after t bytes =
    if has_fault t then tray_failed t
    else tray_written t (take (taken_count t (length bytes)) bytes)
