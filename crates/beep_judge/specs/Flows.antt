-- What is kept of the octets of one direction of a life (RFC 3081, section 3.1).
-- The code keeps numbers modulo 2^32 and the octets that aren't acknowledged, never a count
-- from the beginning.
use Rattle.std.specs.Prelude.{◌≡◌, ℕ, ◌+◌, Bool, List}
use Rattle.beep_seq.specs.Wire.{wire_number}
use Rattle.beep_seq.specs.Due.{breaks_bad_ack}
use Rattle.beep_history.specs.declared.journal.Side.{Side}
use Rattle.beep_history.specs.Journal.{Item}
use Rattle.beep_history.specs.Marks.{passed_octets}
use Rattle.beep_history.specs.Windows.{acked_octets}
use Rattle.beep_judge.specs.declared.flow.Flow.{Flow}

-- the numbers are those of what passed on a side, and of what was acknowledged of it
pub record IsFlow (flow : Flow) (side : Side) (past : List Item) : Type 0 where
  pub next : flow.next ≡ wire_number (passed_octets side past)
  pub acked : flow.acked ≡ wire_number (acked_octets side past)
  pub unacked : acked_octets side past + flow.unacked ≡ passed_octets side past

-- an ackno acknowledges what hasn't passed, or less than before, by what is kept
abbrev pub is_bad_ackno : Flow → ℕ → Bool
is_bad_ackno flow ackno = breaks_bad_ack flow.acked (flow.acked + flow.unacked) ackno
