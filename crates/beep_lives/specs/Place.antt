-- Where a channel stands in the list of the live channels.
use Rattle.std.specs.Prelude.{◌≡◌, ℕ, ◌<◌, ◌==◌, List, length, Some}
use Rattle.std.specs.List.{position}
use Rattle.beep_channel.specs.Held.{Live}
use Rattle.beep_lives.specs.Lives.{numbers}

-- the first channel of this number is at this place
pub record IsLiveAt (number place : ℕ) (channels : List Live) : Type 0 where
  pub within : place < length channels
  pub is : position (λ n. n == number) (numbers channels) ≡ Some place
