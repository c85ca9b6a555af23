use Rattle.std.proofs.Common.{◌≡◌, ◌++◌, take}
use Rattle.beep_record.specs.Record.{octets_text}
use Rattle.beep_record.proofs.write.put_octets.Given as goal

abbrev pub invariant-loop-octet : goal.invariant-loop-octet
invariant-loop-octet l = l.out.octets ≡ l.fn.out.octets ++ octets_text (take l.octet-index l.octets)
