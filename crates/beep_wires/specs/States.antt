-- What a source and a sink are to a contract: their octets, where they are known, and what came of
-- the calls so far.
-- The code of one may keep more, or nothing.
use Rattle.std.specs.Prelude.{ℕ, Bool, Option, List}

-- the octets that reads will give from here on, whether a read gave 0, how many reads failed, and
-- how many there were
pub record SourceState : Type 0 where
  pub left : Option (List ℕ)
  pub ended : Bool
  pub faults : ℕ
  pub reads : ℕ

-- the octets that were written, and how many writes failed
pub record SinkState : Type 0 where
  pub written : Option (List ℕ)
  pub faults : ℕ
