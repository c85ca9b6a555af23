use Rattle.std.proofs.Common.{◌≡◌, ◌≤◌, length, take}
use Rattle.beep_frame.proofs.finder.matched.Given as goal

abbrev pub invariant-loop-i : goal.invariant-loop-i
invariant-loop-i l = (l.i ≤ length l.expected) × (take l.i l.bytes ≡ take l.i l.expected)
