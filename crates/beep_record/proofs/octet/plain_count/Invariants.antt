use Rattle.std.proofs.Common.{◌≡◌, true, take}
use Rattle.beep_record.specs.Machine.{are_plain}
use Rattle.beep_record.proofs.octet.plain_count.Given as goal

abbrev pub invariant-loop-i : goal.invariant-loop-i
invariant-loop-i l = are_plain (take l.i l.octets) ≡ true
