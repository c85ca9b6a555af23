-- The place is within the list.
use Rattle.std.proofs.Common.{◌≤◌, length, ◌-◌}
use Rattle.beep_std.proofs.listeners.place_of.Given as goal

abbrev pub invariant-loop-at : goal.invariant-loop-at
invariant-loop-at l = l.at ≤ length l.list.items

abbrev pub decreases-loop-at : goal.decreases-loop-at
decreases-loop-at l = length l.list.items - l.at
