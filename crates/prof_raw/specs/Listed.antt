-- How a list of entries lies in memory: the octets of all, and the place at which each ends.
-- The code keeps these two lists; a contract sees the entries alone.
use Rattle.std.specs.Prelude.{◌≡◌, ℕ, ◌≤◌, List, [], ◌∷◌}
use Rattle.std.specs.List.{slice_range}

-- the entries from a place on, by the places at which they end
abbrev pub cut : ℕ → List ℕ → List ℕ → List (List ℕ)
cut at octets [] = []
cut at octets (end ∷ ends) = slice_range octets at end ∷ cut end octets ends

-- these places rise from the first to the last
abbrev pub Rises : ℕ → List ℕ → ℕ → Type 0
Rises at [] last = at ≡ last
Rises at (end ∷ ends) last = (at ≤ end) × Rises end ends last
