-- What a contract sees of the octets of an inbox.
-- The code keeps them after those that were taken, in one piece of memory.
use Rattle.std.specs.Prelude.{ℕ, List}

-- the octets, the oldest first, and how many there may be
pub record Queued : Type 0 where
  pub items : List ℕ
  pub capacity : ℕ

-- octets, of which there may be so many
abbrev pub queued : List ℕ → ℕ → Queued
queued items capacity = record { items = items; capacity = capacity }
