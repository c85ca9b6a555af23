use Rattle.std.proofs.Common.{◌≡◌, take}
use Rattle.beep_management.specs.Managed.{octets_prepared}
use Rattle.beep_management.specs.Values.{all_prepared}
use Rattle.beep_management.proofs.answers.sum_octets.Given as goal

-- those before the place are counted
abbrev pub invariant-loop-i : goal.invariant-loop-i
invariant-loop-i l = l.octets ≡ octets_prepared (take l.i (all_prepared l.list.items))
