use Rattle.std.proofs.Common.{◌≡◌, true, take}
use Rattle.std.specs.List.{list_all}
use Rattle.beep_mgmt.specs.Canonical.{is_itself}
use Rattle.beep_mgmt.proofs.canonical.itself_count.Given as goal

abbrev pub invariant-loop-i : goal.invariant-loop-i
invariant-loop-i l = list_all is_itself (take l.i l.octets) ≡ true
