-- The last line and the status of each verdict, and what is said of an input.
-- No contract of a public call cites it.
use Rattle.std.specs.Prelude.{ℕ, List, []}
use Rattle.std.specs.Io.KnownBytes.{Consumes}
use Rattle.beep_runs.specs.beep_record.specs.declared.verdict.Verdict.{Verdict}
use Rattle.beep_runs.specs.beep_wires.specs.States.{SourceState}
use Rattle.beep_show.specs.Texts.{broken_line, written_line}
use Rattle.beep_cmd.specs.Replay.{IsReplayReport}

-- the status of a verdict
abbrev pub verdict_status : Verdict → ℕ
verdict_status Verdict.Fine = 0
verdict_status (Verdict.Broken rule place) = 3
verdict_status (Verdict.Written rule place) = 2

-- its last line; the report of a session without a fault has its own
abbrev pub verdict_line : Verdict → List ℕ
verdict_line Verdict.Fine = []
verdict_line (Verdict.Broken rule place) = broken_line rule place
verdict_line (Verdict.Written rule place) = written_line rule place

-- the text is a report of what was read, with this status
pub record ReportsInput (status : ℕ) (text : List ℕ) (old new : SourceState) : Type 0 where
  pub octets : List ℕ
  pub consumed : Consumes old.left new.left octets
  pub report : IsReplayReport old new octets text status
