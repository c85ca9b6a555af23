-- What a list of octets with room after it is to a contract: the octets and the room, two numbers
-- apart from how they lie in memory.
use Rattle.std.specs.Prelude.{ℕ, ◌+◌, ◌≤◌, List, length}

-- the octets, and how many more can be appended without taking memory
pub record Held : Type 0 where
  pub octets : List ℕ
  pub spare : ℕ

-- at most n octets of room went
abbrev pub GrowsBy : Held → Held → ℕ → Type 0
GrowsBy old new n = old.spare ≤ new.spare + n

-- the room that was taken stays: what isn't filled is spare
abbrev pub KeepsRoom : Held → Held → Type 0
KeepsRoom old new = length old.octets + old.spare ≤ length new.octets + new.spare
