-- The buffers of a link between two turns, of the same link or of another.
use Rattle.std.specs.Prelude.{◌≡◌, [], vec_len}
use Rattle.beep_link.specs.declared.buffers.Buffers.{Buffers}
use Rattle.beep_link.specs.declared.buffers.TheConstants.{BUFFER}

-- nothing is gathered, and what comes in has its whole buffer: a turn of any link may take them
pub record IsBetween (buffers : Buffers) : Type 0 where
  pub coming : vec_len buffers.coming ≡ BUFFER
  pub going : buffers.going.octets ≡ []
