use Rattle.std.proofs.Common.{◌≡◌, ◌++◌, take}
use Rattle.beep_management.specs.Managed.{numbers_of}
use Rattle.beep_management.proofs.management.list_numbers.Given as goal

-- the numbers of the channels before the place are listed
abbrev pub invariant-loop-i : goal.invariant-loop-i
invariant-loop-i l = l.numbers.items ≡ l.initial.numbers.items ++ numbers_of (take l.i l.channels.list)
