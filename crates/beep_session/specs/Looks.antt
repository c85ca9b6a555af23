-- What a session answers of itself.
use Rattle.std.specs.Prelude.{◌≡◌, ℕ, ◌==◌, false, List, [], Some}
use Rattle.beep_giving.specs.beep_channel.specs.Held.{Live}
use Rattle.beep_giving.specs.beep_lives.specs.Lives.{live_at}

-- the number is 0, or its channel has ended or has no untaken mark
abbrev pub IsTakenAt : ℕ → List Live → Type 0
IsTakenAt number channels = (number == 0) ≡ false → (channel : Live)
    → live_at number channels ≡ Some channel → channel.held.inbox ≡ []
