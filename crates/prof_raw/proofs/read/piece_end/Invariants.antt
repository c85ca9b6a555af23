-- No line end stands from the first place to this one.
use Rattle.std.proofs.Common.{◌≡◌, ◌+◌, ◌-◌, ◌≤◌, drop, length}
use Rattle.prof_raw.specs.Walk.{piece_len}
use Rattle.prof_raw.proofs.read.piece_end.Given as goal

abbrev pub invariant-loop-place : goal.invariant-loop-place
invariant-loop-place l = record {
  walked : l.from + piece_len (drop l.from l.body) ≡ l.at + piece_len (drop l.at l.body);
  within : l.at ≤ length l.body;
}

abbrev pub decreases-loop-place : goal.decreases-loop-place
decreases-loop-place l = length l.body - l.at
