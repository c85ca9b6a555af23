use Rattle.std.proofs.Common.{◌≡◌, ◌++◌, take}
use Rattle.std.specs.List.{flat_map}
use Rattle.beep_report.specs.Texts.{hex_of}
use Rattle.beep_report.proofs.words.put_digits.Given as goal

abbrev pub invariant-loop-octet : goal.invariant-loop-octet
invariant-loop-octet l = l.out.octets ≡ l.fn.out.octets ++ flat_map hex_of (take l.octet-index l.octets)
