use Rattle.std.proofs.Common.{◌≡◌, take, not}
use Rattle.std.specs.List.{filter}
use Rattle.beep_chars.specs.Characters.{is_space}
use Rattle.beep_mgmt.proofs.said.symbols_in.Given as goal

abbrev pub invariant-loop-octet : goal.invariant-loop-octet
invariant-loop-octet l = l.symbols.octets ≡ filter (λ c. not (is_space c)) (take l.octet-index l.text)
