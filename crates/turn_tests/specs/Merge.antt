-- Two texts in one.
use Rattle.std.specs.Prelude.{◌≡◌, ◌⊎◌, ℕ, List, [], ◌∷◌}

-- the last text is a merge of the others: each octet of it is the next of one of them, and nothing
-- of either is left
abbrev pub IsMerge : List ℕ → List ℕ → List ℕ → Type 0
IsMerge one other [] = (one ≡ []) × (other ≡ [])
IsMerge one other (octet ∷ all) =
    ((rest : List ℕ) × (one ≡ octet ∷ rest) × IsMerge rest other all)
    ⊎ ((rest : List ℕ) × (other ≡ octet ∷ rest) × IsMerge one rest all)
