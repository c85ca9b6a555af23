use Rattle.std.proofs.Common.{◌≡◌, take}
use Rattle.beep_record.specs.Machine.{are_plain}
use Rattle.beep_record.proofs.octet.are_plain.Given as goal

abbrev pub invariant-loop-octet : goal.invariant-loop-octet
invariant-loop-octet l = l.all ≡ are_plain (take l.octet-index l.octets)
