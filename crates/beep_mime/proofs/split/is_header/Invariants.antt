use Rattle.std.proofs.Common.{◌≡◌, false, drop}
use Rattle.beep_mime.specs.Split.{is_header_line}
use Rattle.beep_mime.proofs.split.is_header.Given as goal

abbrev pub invariant-loop-octet : goal.invariant-loop-octet
invariant-loop-octet l = is_header_line false l.line ≡ is_header_line l.named (drop l.octet-index l.line)
