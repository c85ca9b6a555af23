-- The answers that have come in part: of each channel and answer number, the octets so far (RFC
-- 3080, section 2.6.1).
-- The code keeps them in a list, in which a place that isn't used stays for its room.
use Rattle.std.specs.Prelude.{◌≡◌, ℕ, ◌==◌, Bool, true, false, not, ◌&&◌, if◌then◌else◌, List, [], ◌∷◌, ◌++◌, Some, length, slice_get, slice_set}
use Rattle.std.specs.List.{list_any}
use Rattle.beep_lines.specs.declared.bodies.Body.{Body}

-- the body is that of the unfinished answer of this number on this channel
abbrev pub is_of : ℕ → ℕ → Body → Bool
is_of channel ansno body = body.is_begun && (body.channel == channel && body.ansno == ansno)

-- the octets so far of the unfinished answer of a number: none where none is under way
abbrev pub body_of : ℕ → ℕ → List Body → List ℕ
body_of channel ansno [] = []
body_of channel ansno (body ∷ bodies) =
    if is_of channel ansno body then body.octets.octets else body_of channel ansno bodies

-- a body that is over
abbrev pub ended : Body → Body
ended body = record body { is_begun = false }

-- the body at a place is over, and all others stay
pub record HasEnded (i : ℕ) (old new : List Body) : Type 0 where
  pub body : Body
  pub at : slice_get old i ≡ Some body
  pub new_is : new ≡ slice_set old i (ended body)

-- no answer is under way at a place
abbrev pub is_free : Body → Bool
is_free body = not body.is_begun

-- there are no more places, unless none was free
abbrev pub KeepsPlaces : List Body → List Body → Type 0
KeepsPlaces old new = list_any is_free old ≡ true → length new ≡ length old

-- each answer but this stays
abbrev pub Others : ℕ → ℕ → List Body → List Body → Type 0
Others channel ansno old new = (n m : ℕ) → (n == channel && m == ansno) ≡ false
    → body_of n m new ≡ body_of n m old

-- an answer has these octets more, and all others stay; a free place is used before one is made
pub record HasMore (channel ansno : ℕ) (octets : List ℕ) (old new : List Body) : Type 0 where
  pub own : body_of channel ansno new ≡ body_of channel ansno old ++ octets
  pub others : Others channel ansno old new
  pub places : KeepsPlaces old new

-- an answer isn't under way at any place, and all others stay
pub record IsOver (channel ansno : ℕ) (old new : List Body) : Type 0 where
  pub own : body_of channel ansno new ≡ []
  pub nowhere : list_any (is_of channel ansno) new ≡ false
  pub others : Others channel ansno old new

-- a place is free, and each answer stays
pub record IsFree (i : ℕ) (old new : List Body) : Type 0 where
  pub body : Body
  pub at : slice_get new i ≡ Some body
  pub over : body.is_begun ≡ false
  pub same : (n m : ℕ) → body_of n m new ≡ body_of n m old
  pub places : KeepsPlaces old new
  pub any : (n m : ℕ) → list_any (is_of n m) new ≡ list_any (is_of n m) old
