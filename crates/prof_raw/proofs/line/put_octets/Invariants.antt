-- The octets before the place are written, and there is room for the rest.
use Rattle.std.proofs.Common.{◌≡◌, ◌≤◌, ◌+◌, ◌-◌, ◌*◌, ◌++◌, length, take}
use Rattle.prof_raw.specs.Line.{octets_written}
use Rattle.prof_raw.proofs.line.put_octets.Given as goal

abbrev pub invariant-loop-at : goal.invariant-loop-at
invariant-loop-at l = record {
  written : l.out.octets ≡ l.fn.out.octets ++ octets_written (take l.at l.octets);
  room : l.fn.out.spare ≤ l.out.spare + 2 * l.at;
  within : l.at ≤ length l.octets;
}

abbrev pub decreases-loop-at : goal.decreases-loop-at
decreases-loop-at l = length l.octets - l.at
