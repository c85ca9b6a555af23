-- An input that is read whole: to its end, or to one octet more than are kept.
-- The code reads piece by piece; here it is all that was read.
use Rattle.std.specs.Prelude.{◌≡◌, ℕ, ◌+◌, ◌≤◌, true, List, length}
use Rattle.std.specs.Io.KnownBytes.{Consumes, IsAtEnd}
use Rattle.beep_wires.specs.Counts.{Rose}
use Rattle.beep_wires.specs.States.{SourceState}
use Rattle.beep_input.specs.declared.whole.Unread.{Unread}
use Rattle.beep_input.specs.declared.whole.TheConstants.{MAX_INPUT}

-- the input was read to its end
abbrev pub HasEnded : SourceState → Type 0
HasEnded source = (source.ended ≡ true) × IsAtEnd source.left

-- these octets were read: the whole input, or one octet more than are kept
pub record IsGathered (octets : List ℕ) (old new : SourceState) : Type 0 where
  pub consumed : Consumes old.left new.left octets
  pub most : length octets ≤ MAX_INPUT + 1
  pub ended : length octets ≤ MAX_INPUT → HasEnded new

-- no more octets were read than are kept
pub record ReadsFew (old new : SourceState) : Type 0 where
  pub octets : List ℕ
  pub consumed : Consumes old.left new.left octets
  pub within : length octets ≤ MAX_INPUT

-- why the reading stopped
abbrev pub Stopped : Unread → SourceState → SourceState → Type 0
Stopped Unread.Fault old new = Rose old.faults new.faults × ReadsFew old new
Stopped Unread.NoMemory old new = ReadsFew old new
