-- The counts that a source and a sink keep, of calls and of faults.
-- The code keeps each in 64 bits; here it is a number that stays at a greatest value.
use Rattle.std.specs.Prelude.{◌≡◌, ℕ, ◌+◌, ◌<◌, min, ◌⊎◌}
use Rattle.beep_wires.specs.declared.count.TheConstants.{COUNT_MAX}

-- the count after one more
abbrev pub next_count : ℕ → ℕ
next_count count = min (count + 1) COUNT_MAX

-- the count rose, or stands at its greatest value
abbrev pub Rose : ℕ → ℕ → Type 0
Rose old new = (old < new) ⊎ (new ≡ COUNT_MAX)
