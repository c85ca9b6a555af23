-- The end of an input, as a read tells it.
-- A source keeps whether it came; here it is what the last answer was.
use Rattle.std.specs.Prelude.{◌==◌, ℕ, Bool, false, Result, Ok, Err}

-- the read gave 0, which is the end of the input
abbrev pub is_end : {E : Type 0} → Result ℕ E → Bool
is_end (Ok n) = n == 0
is_end (Err e) = false
