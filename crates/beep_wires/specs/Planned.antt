-- Which calls are to fail: those whose numbers, counted from 0, are in a list.
-- The code asks the list at each call; no call is taken out of it.
use Rattle.std.specs.Prelude.{◌==◌, ℕ, Bool, List}
use Rattle.std.specs.List.{list_any}

-- the call of this number is to fail
abbrev pub is_planned : List ℕ → ℕ → Bool
is_planned fails call = list_any (λ number. number == call) fails
