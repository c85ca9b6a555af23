-- What a read of a link leaves of a reader that tells its octets; a socket tells none, and of it
-- this says nothing.
-- The code asks the system again where a signal interrupts it.
use Rattle.std.specs.Prelude.{◌<◌, ℕ, List, length, take, Option, Result, Ok, Err}
use Rattle.std.specs.Io.KnownBytes.{Consumes, IsAtEnd, Keeps}
use Rattle.beep_wires.specs.declared.links.Got.{Got}

-- what it gave came next, at the end nothing is left, and else nothing was taken
abbrev pub GotConsumes :
    {E : Type 0} → Option (List ℕ) → Option (List ℕ) → Result Got E → List ℕ → Type 0
GotConsumes before after (Ok (Got.Bytes n)) buf = Consumes before after (take n buf)
GotConsumes before after (Ok Got.Quiet) buf = Keeps before after
GotConsumes before after (Ok Got.End) buf = Keeps before after × (0 < length buf → IsAtEnd after)
GotConsumes before after (Err e) buf = Keeps before after
