-- The octets so far are the digits of the number so far.
use Rattle.std.proofs.Common.{◌≡◌, ◌<◌, ◌≤◌, ◌-◌, take, length}
use Rattle.std.specs.Fmt.{decimal}
use Rattle.beep_frame.proofs.whole.positive.Given as goal

abbrev pub invariant-loop-at : goal.invariant-loop-at
invariant-loop-at l = record {
  some : 0 < l.number;
  within : l.at ≤ length l.bytes;
  so_far : take l.at l.bytes ≡ decimal l.number;
}

abbrev pub decreases-loop-at : goal.decreases-loop-at
decreases-loop-at l = length l.bytes - l.at
