-- What is said of an input of `pair`, or of a seed.
-- No contract of a public call cites it.
use Rattle.std.specs.Prelude.{ℕ, List}
use Rattle.std.specs.Io.KnownBytes.{Consumes}
use Rattle.beep_runs.specs.beep_wires.specs.States.{SourceState}
use Rattle.beep_show.specs.beep_words.specs.declared.command.PairSettings.{PairSettings}
use Rattle.beep_cmd.specs.Pair.{IsPairReport, ReadsSchedule}

-- the text is a report of what was read, with this status
pub record TellsPair (settings : PairSettings) (status : ℕ) (text : List ℕ) (old new : SourceState)
    : Type 0 where
  pub octets : List ℕ
  pub consumed : Consumes old.left new.left octets
  pub report : IsPairReport settings old new octets text status

-- the like without a seed
pub record TellsSchedule (settings : PairSettings) (status : ℕ) (text : List ℕ)
    (old new : SourceState) : Type 0 where
  pub octets : List ℕ
  pub consumed : Consumes old.left new.left octets
  pub reads : ReadsSchedule settings old new octets text status
