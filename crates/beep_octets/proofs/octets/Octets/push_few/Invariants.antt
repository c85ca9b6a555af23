-- The octets so far are appended, and their room is used.
use Rattle.std.proofs.Common.{◌≡◌, ◌+◌, ◌++◌, take}
use Rattle.beep_octets.proofs.octets.Octets.push_few.Given as goal

abbrev pub invariant-loop-i : goal.invariant-loop-i
invariant-loop-i l = (l.self.octets ≡ l.fn.self.octets ++ take l.i l.fn.bytes) × (l.self.spare + l.i ≡ l.fn.self.spare)
