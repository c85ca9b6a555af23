-- What is written of a message: the line of each entry of its body, and what an output has of lines
-- that are gathered (RFC 3195, section 3).
-- The code goes from entry to entry, and writes as many lines at once as it has room for.
use Rattle.std.specs.Prelude.{◌≡◌, List, ◌++◌, ℕ, Option, flat_map}
use Rattle.beep_mime.specs.Split.{body_of}
use Rattle.prof_raw.specs.Entries.{entries_of}
use Rattle.prof_raw.specs.Line.{line_of}
use Rattle.beep_link.specs.Causes.{WithText}

-- the lines of a message: those of the entries of its body, after its MIME header
abbrev pub lines_of : List ℕ → List ℕ
lines_of message = flat_map line_of (entries_of (body_of message))

-- the lines that were gathered, and these, are what was written since and what is gathered now
abbrev pub GathersAll : Option (List ℕ) → Option (List ℕ) → List ℕ → List ℕ → List ℕ → Type 0
GathersAll before now old lines new =
    WithText before now (λ more. old ++ lines ≡ more ++ new)

-- what was written since, and what is gathered now, are a beginning of those
abbrev pub GathersSome : Option (List ℕ) → Option (List ℕ) → List ℕ → List ℕ → List ℕ → Type 0
GathersSome before now old lines new =
    WithText before now (λ more. (rest : List ℕ) × (old ++ lines ≡ (more ++ new) ++ rest))
