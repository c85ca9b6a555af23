-- What a source in memory is to a contract, and what one read makes of it.
-- The code keeps all of its octets and a place among them; here only what is left is seen.
use Rattle.std.specs.Prelude.{◌==◌, ℕ, min, Bool, false, List, length, drop, if◌then◌else◌}
use Rattle.beep_wires.specs.Counts.{next_count}
use Rattle.beep_wires.specs.Planned.{is_planned}

-- the octets that are left, the most that a read gives, the calls that are to fail, and what came
-- of the calls so far
pub record Supply : Type 0 where
  pub left : List ℕ
  pub piece : ℕ
  pub fails : List ℕ
  pub ended : Bool
  pub faults : ℕ
  pub reads : ℕ

-- a source of these octets before its first read
abbrev pub supply_of : List ℕ → ℕ → List ℕ → Supply
supply_of octets piece fails =
    record { left = octets; piece = piece; fails = fails; ended = false; faults = 0; reads = 0 }

-- how many octets a read that doesn't fail gives to a buffer of this length
abbrev pub given_count : Supply → ℕ → ℕ
given_count s room = min (min s.piece (length s.left)) room

-- a read that failed counts as a call and as a fault, and gave nothing
abbrev pub supply_failed : Supply → Supply
supply_failed s = record s { faults = next_count s.faults; reads = next_count s.reads }

-- a read that gave n octets
abbrev pub supply_read : Supply → ℕ → Supply
supply_read s n = record s { left = drop n s.left; ended = n == 0; reads = next_count s.reads }

-- the source after a read into a buffer of this length
abbrev pub supply_after : Supply → ℕ → Supply
supply_after s room =
    if is_planned s.fails s.reads then supply_failed s else supply_read s (given_count s room)
