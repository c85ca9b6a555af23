-- The answers that have come in part, but for those whose channel has no live life.
-- The code goes from place to place.
use Rattle.std.specs.Prelude.{◌≡◌, ◌<◌, ℕ, suc, ◌==◌, Bool, true, false, not, ◌&&◌, List, [], length, Some, is_some, slice_get}
use Rattle.beep_steps.specs.beep_channel.specs.Held.{Live}
use Rattle.beep_steps.specs.beep_lives.specs.Lives.{live_at}
use Rattle.beep_lines.specs.declared.bodies.Body.{Body}
use Rattle.beep_lines.specs.Bodies.{body_of}

-- the number is above zero and has a live life
abbrev pub has_life : List Live → ℕ → Bool
has_life lives number = not (number == 0) && is_some (live_at number lives)

-- those of a live life stay, and there are no others
pub record HasPruned (lives : List Live) (old new : List Body) : Type 0 where
  pub kept : (number ansno : ℕ) → has_life lives number ≡ true
      → body_of number ansno new ≡ body_of number ansno old
  pub gone : (number ansno : ℕ) → has_life lives number ≡ false → body_of number ansno new ≡ []

-- each answer of these is over or of a live life
abbrev pub AreOfLives : List Live → ℕ → List Body → Type 0
AreOfLives lives count bodies = (i : ℕ) (body : Body) → i < count
    → slice_get bodies i ≡ Some body → body.is_begun ≡ true → has_life lives body.channel ≡ true

-- so is the one at a place, where the others stay
pub record HasPrunedAt (i : ℕ) (lives : List Live) (old new : List Body) : Type 0 where
  pub length_is : length new ≡ length old
  pub kept : (number ansno : ℕ) → has_life lives number ≡ true
      → body_of number ansno new ≡ body_of number ansno old
  pub before : AreOfLives lives i old → AreOfLives lives (suc i) new
