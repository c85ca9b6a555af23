-- The last octets so far stand before the others.
use Rattle.std.proofs.Common.{◌≡◌, ◌-◌, ◌++◌, length, drop}
use Rattle.beep_octets.proofs.front.put_octets.Given as goal

abbrev pub invariant-loop-i : goal.invariant-loop-i
invariant-loop-i l = drop (l.end - l.i) l.octets ≡ drop (length l.fn.bytes - l.i) l.fn.bytes ++ drop l.end l.fn.octets
