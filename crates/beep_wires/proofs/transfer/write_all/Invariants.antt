-- The octets before the place are written.
use Rattle.std.proofs.Common.{◌≡◌, length, take, ◌-◌, ◌≤◌}
use Rattle.std.specs.Io.KnownBytes.{Appends}
use Rattle.beep_wires.proofs.transfer.write_all.Given as goal

abbrev pub invariant-loop-at : goal.invariant-loop-at
invariant-loop-at g l = record {
  within : l.at ≤ length l.bytes;
  empty : length l.bytes ≡ 0 → l.sink ≡ l.initial.sink;
  kept : (g.S.Sink.state l.initial.sink).faults ≤ (g.S.Sink.state l.sink).faults;
  appended : Appends (g.S.Sink.state l.initial.sink).written (g.S.Sink.state l.sink).written (take l.at l.bytes);
}

abbrev pub decreases-loop-at : goal.decreases-loop-at
decreases-loop-at g l = length l.bytes - l.at
