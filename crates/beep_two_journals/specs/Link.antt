-- Two ends of a link, octet by octet: what the one writes the other reads, in order and without
-- loss (RFC 3081, section 2).
-- No code keeps both ends in one place, but for a pair in memory. How reads and writes were cut
-- appears nowhere.
use Rattle.std.specs.Prelude.{◌≡◌, ◌⊎◌, ℕ, List, [], ◌∷◌, ◌++◌}
use Rattle.beep_journal.specs.Log.{Moment, got, put, none, over}

-- an end writes an octet, reads the oldest one on its wire, or finds none or the link's end
pub data Move : Type 0 where
  a_writes : Move
  b_writes : Move
  a_reads : Move
  b_reads : Move
  a_waits : Move
  b_waits : Move

-- these moves, the latest first, lead from empty logs and wires to these flat logs, and to wires on
-- which these octets lie, the oldest first
abbrev pub IsLinked : List Move → List Moment → List Moment → List ℕ → List ℕ → Type 0
IsLinked [] a b to_a to_b = (a ≡ []) × (b ≡ []) × (to_a ≡ []) × (to_b ≡ [])
IsLinked (a_writes ∷ moves) a b to_a to_b =
    (before : List Moment) × (rest : List ℕ) × (octet : ℕ) × (a ≡ put octet ∷ before)
    × (to_b ≡ rest ++ octet ∷ []) × IsLinked moves before b to_a rest
IsLinked (b_writes ∷ moves) a b to_a to_b =
    (before : List Moment) × (rest : List ℕ) × (octet : ℕ) × (b ≡ put octet ∷ before)
    × (to_a ≡ rest ++ octet ∷ []) × IsLinked moves a before rest to_b
IsLinked (a_reads ∷ moves) a b to_a to_b =
    (before : List Moment) × (octet : ℕ) × (a ≡ got octet ∷ before)
    × IsLinked moves before b (octet ∷ to_a) to_b
IsLinked (b_reads ∷ moves) a b to_a to_b =
    (before : List Moment) × (octet : ℕ) × (b ≡ got octet ∷ before)
    × IsLinked moves a before to_a (octet ∷ to_b)
IsLinked (a_waits ∷ moves) a b to_a to_b =
    (before : List Moment) × ((a ≡ none ∷ before) ⊎ (a ≡ over ∷ before))
    × IsLinked moves before b to_a to_b
IsLinked (b_waits ∷ moves) a b to_a to_b =
    (before : List Moment) × ((b ≡ none ∷ before) ⊎ (b ≡ over ∷ before))
    × IsLinked moves a before to_a to_b
