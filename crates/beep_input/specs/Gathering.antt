-- What was read so far of an input that is kept whole.
-- No contract of a public call cites it.
use Rattle.std.specs.Prelude.{◌≡◌, ℕ, ◌+◌, ◌≤◌, false, List, [], length, take}
use Rattle.std.specs.Io.KnownBytes.{Consumes}
use Rattle.beep_wires.specs.Counts.{Rose}
use Rattle.beep_wires.specs.States.{SourceState}
use Rattle.beep_input.specs.declared.whole.Unread.{Unread}

-- why a read gave nothing
abbrev pub StopsAtOnce : Unread → SourceState → SourceState → Type 0
StopsAtOnce Unread.Fault old new = Rose old.faults new.faults × Consumes old.left new.left []
StopsAtOnce Unread.NoMemory old new = Consumes old.left new.left []

-- so many octets came, and stand at the front of the buffer
pub record HasCome (count : ℕ) (buffer : List ℕ) (old new : SourceState) : Type 0 where
  pub consumed : Consumes old.left new.left (take count buffer)
  pub within : count ≤ length buffer
  pub going : new.ended ≡ false
  pub kept : old.faults ≤ new.faults
  pub reads : new.reads ≤ old.reads + count
