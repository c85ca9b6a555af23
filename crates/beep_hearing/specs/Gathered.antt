-- What is kept of a message of channel zero as it arrives (RFC 3080, section 2.3.1).
-- The code keeps the octets in a list that has room for as many as can be read.
use Rattle.std.specs.Prelude.{ℕ, Bool, List}

-- the octets that are kept, whether the message has more than can be read, and room for so many
pub record Gathered : Type 0 where
  pub octets : List ℕ
  pub long : Bool
  pub spare : ℕ
