-- What a question for help or for the version gives: its text and nothing else.
-- The code writes the text in one call, which may write it in several pieces.
use Rattle.std.specs.Prelude.{◌≡◌, ℕ, List}
use Rattle.std.specs.Io.KnownBytes.{Appends}
use Rattle.beep_runs.specs.beep_wires.specs.Counts.{Rose}
use Rattle.beep_runs.specs.beep_wires.specs.Transfer.{AppendsPrefix}
use Rattle.beep_show.specs.Show.{Run}

-- the text was written, with status 0; or the write failed after a beginning of it
pub data Told (text : List ℕ) (status : ℕ) (run : Run) : Type 0 where
  told : status ≡ 0 → Appends run.sink.written run.sink_after.written text
      → Told text status run
  write_fault : status ≡ 5 → Rose run.sink.faults run.sink_after.faults
      → AppendsPrefix run.sink.written run.sink_after.written text → Told text status run
