-- What standard input is to a contract: whether it has ended, and two counts.
-- The code holds the handle of the system beside them.
use Rattle.std.specs.Prelude.{ℕ, Bool, false}

-- whether a read gave 0, how many reads failed, and how many there were
pub record SourceCounts : Type 0 where
  pub ended : Bool
  pub faults : ℕ
  pub reads : ℕ

-- before the first read
abbrev pub at_start : SourceCounts
at_start = record { ended = false; faults = 0; reads = 0 }
