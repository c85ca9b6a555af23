-- The numbers of octets on the wire, counts modulo 2^32 (RFC 3080, section 2.2.1.1; RFC 3081,
-- section 3.1).
-- The code keeps such numbers and small differences; here a count is a natural number and never
-- wraps.
use Rattle.std.specs.Prelude.{◌≡◌, ℕ, ◌+◌, ◌-◌, ◌%◌, ◌≤◌}
use Rattle.beep_octets.specs.Numbers.{numbers_32}

-- the number that a count of octets has on the wire
abbrev pub wire_number : ℕ → ℕ
wire_number count = count % numbers_32

-- the count that a number on the wire stands for, which isn't below the start
abbrev pub count_from : ℕ → ℕ → ℕ
count_from start number = start + wire_number (number + numbers_32 - wire_number start)

-- of the counts from the start on that have this number, this one is the first
pub record IsFirstFrom (start number count : ℕ) : Type 0 where
  pub reached : start ≤ count
  pub numbered : wire_number count ≡ number
  pub least : (other : ℕ) → start ≤ other → wire_number other ≡ number → count ≤ other
