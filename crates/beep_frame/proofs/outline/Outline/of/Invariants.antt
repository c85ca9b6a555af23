use Rattle.std.proofs.Common.{◌≤◌, ◌-◌, length, take}
use Rattle.beep_frame.specs.Outlining.{Holds}
use Rattle.beep_frame.proofs.outline.Outline.of.Given as goal

abbrev pub invariant-loop-at : goal.invariant-loop-at
invariant-loop-at l = (l.at ≤ length l.octets) × Holds l.reading (take l.at l.octets)

abbrev pub decreases-loop-at : goal.decreases-loop-at
decreases-loop-at l = length l.octets - l.at
