-- Channel numbers in ascending order, and whose turn it is among them: the lowest that is ready
-- (RFC 3081, section 3.1.4).
-- The code finds a place by a count and looks at the flags one after the other.
use Rattle.std.specs.Prelude.{◌≡◌, ℕ, ◌+◌, ◌≤◌, ◌==◌, Bool, true, nat_lt, if◌then◌else◌, List, [], ◌∷◌, Option, None, Some, slice_get}

-- ---- the list

-- each number is above those before it, and the first is no less than this
abbrev pub IsAscending : ℕ → List ℕ → Type 0
IsAscending least [] = Unit {0}
IsAscending least (n ∷ ns) = (least ≤ n) × IsAscending (n + 1) ns

-- with this number, at its ascending place
abbrev pub insert : ℕ → List ℕ → List ℕ
insert number [] = number ∷ []
insert number (n ∷ ns) = if nat_lt number n then number ∷ n ∷ ns else n ∷ insert number ns

-- without this number
abbrev pub without : ℕ → List ℕ → List ℕ
without number [] = []
without number (n ∷ ns) = if n == number then without number ns else n ∷ without number ns

-- ---- the turn, where each place has a flag

-- the first number whose flag is set
abbrev pub first_true : List Bool → List ℕ → Option ℕ
first_true [] ns = None
first_true (flag ∷ flags) [] = None
first_true (flag ∷ flags) (n ∷ ns) = if flag then Some n else first_true flags ns

-- the flag of this number is set
pub record IsReady (flags : List Bool) (numbers : List ℕ) (number : ℕ) : Type 0 where
  pub place : ℕ
  pub at : slice_get numbers place ≡ Some number
  pub flag : slice_get flags place ≡ Some true

-- of the numbers whose flags are set this is the least
pub record IsLeastReady (flags : List Bool) (numbers : List ℕ) (number : ℕ) : Type 0 where
  pub ready : IsReady flags numbers number
  pub least : (other : ℕ) → IsReady flags numbers other → number ≤ other
