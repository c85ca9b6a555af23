-- The pieces so far have some octets.
use Rattle.std.proofs.Common.{◌≡◌, drop, map}
use Rattle.std.specs.List.{list_all}
use Rattle.beep_memory.specs.Gifts.{gift_of, is_some}
use Rattle.beep_memory.proofs.gives.all_some.Given as goal

abbrev pub invariant-loop-give : goal.invariant-loop-give
invariant-loop-give l = list_all is_some (map gift_of (drop l.give-index l.list)) ≡ list_all is_some (map gift_of l.list)
