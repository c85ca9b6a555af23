-- How many lines an output was given: the LF octets of what was written to it.
-- The code counts what each write took; here it is what was written since, whole.
use Rattle.std.specs.Prelude.{◌≡◌, ℕ, min, ◌==◌, Option, Some, List}
use Rattle.std.specs.Borrow.{GName}
use Rattle.std.specs.Io.KnownBytes.{Appends}
use Rattle.std.specs.List.{count_by}
use Rattle.beep_wires.specs.declared.count.TheConstants.{COUNT_MAX}
use Rattle.beep_link.specs.Causes.{WithText}

-- how many lines these octets end
abbrev pub lines_in : List ℕ → ℕ
lines_in octets = count_by (λ octet. octet == 10) octets

-- the count of the lines that these octets end, which stays at its greatest value
abbrev pub line_count : List ℕ → ℕ
line_count octets = min (lines_in octets) COUNT_MAX

-- ---- what is counted, where that is known

-- what is counted: the lines that this output is given after these octets
pub record Start : Type 0 where
  pub output : GName
  pub written : Option (List ℕ)

-- where it is known what is counted, it is this output's, and begins here
abbrev pub Begins : Option Start → GName → Option (List ℕ) → Type 0
Begins known output written = (start : Start) → known ≡ Some start
    → (output ≡ start.output) × (written ≡ start.written)

-- where it is known what is counted, the output is that one
abbrev pub IsOutput : Option Start → GName → Type 0
IsOutput known output = (start : Start) → known ≡ Some start → output ≡ start.output

-- the lines of what was written after these octets are so many
abbrev pub CountsSince : Option (List ℕ) → Option (List ℕ) → ℕ → Type 0
CountsSince before now lines = WithText before now (λ text. lines ≡ line_count text)

-- where it is known what is counted, so many lines were written since
abbrev pub Counts : Option Start → Option (List ℕ) → ℕ → Type 0
Counts known now lines = (start : Start) → known ≡ Some start
    → ∥ CountsSince start.written now lines ∥₁

-- the octets that were written after those that were known end so many lines
abbrev pub IsCount : Option Start → Option (List ℕ) → ℕ → Type 0
IsCount known now lines = (start : Start) (before text : List ℕ) → known ≡ Some start
    → start.written ≡ Some before → Appends start.written now text → lines ≡ line_count text
