use Rattle.std.proofs.Common.{◌≡◌, ◌++◌, take}
use Rattle.std.specs.Option.{option_to_list}
use Rattle.beep_management.specs.Managed.{numbers_of, lowest}
use Rattle.beep_management.proofs.management.lowest_of.Given as goal

-- the lowest of the channels before the place is found
abbrev pub invariant-loop-i : goal.invariant-loop-i
invariant-loop-i l = l.lowest ≡ lowest (option_to_list l.fn.known ++ numbers_of (take l.i l.channels.list))
