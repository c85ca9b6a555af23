-- Why a text isn't read as a record.
use Rattle.std.specs.Prelude.{ℕ, List}
use Rattle.beep_record.specs.declared.read.RecordError.{RecordError}
use Rattle.beep_record.specs.Record.{Stops}

-- what a refusal says of a text; running out of memory says nothing
abbrev pub Refuses : List ℕ → RecordError → Type 0
Refuses text (RecordError.BadRecord q) = Stops text q
Refuses text RecordError.NoMemory = Unit {0}
