-- What a transfer that failed on its way has written.
-- The code goes on from a place in the piece; here it is a beginning of the piece.
use Rattle.std.specs.Prelude.{◌≡◌, ℕ, ◌++◌, Option, List}
use Rattle.std.specs.Io.KnownBytes.{Appends}

-- known octets grow by a beginning of these bytes
abbrev pub AppendsPrefix : Option (List ℕ) → Option (List ℕ) → List ℕ → Type 0
AppendsPrefix old new bytes =
    (front : List ℕ) × (rest : List ℕ) × (bytes ≡ front ++ rest) × Appends old new front
