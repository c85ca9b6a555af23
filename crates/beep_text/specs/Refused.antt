-- Which refusal a body that says no element gets.
use Rattle.std.specs.Prelude.{ℕ, ◌<◌, ◌≤◌, List, length}
use Rattle.beep_text.specs.declared.limits.TheConstants.{MAX_TEXT}
use Rattle.beep_text.specs.declared.read.TextError.{TextError}
use Rattle.beep_text.specs.Elements.{Stops, IsEntity}

-- the error is the one for the body, out of memory apart
abbrev pub Refuses : List ℕ → TextError → Type 0
Refuses body (TextError.Malformed q) =
    (length body ≤ MAX_TEXT) × Stops body q × ((p : ℕ) → ¬ (IsEntity body q p))
Refuses body (TextError.Entity p) =
    (length body ≤ MAX_TEXT) × ((q : ℕ) × Stops body q × IsEntity body q p)
Refuses body TextError.TooLong = MAX_TEXT < length body
Refuses body TextError.NoMemory = Unit {0}
