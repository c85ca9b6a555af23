-- The sum so far, and the need of the rest, are the need of all.
use Rattle.std.proofs.Common.{◌≡◌, ◌+◌, drop, map}
use Rattle.beep_memory.specs.Gifts.{gift_of, gifts_need}
use Rattle.beep_memory.proofs.gives.need_of.Given as goal

abbrev pub invariant-loop-give : goal.invariant-loop-give
invariant-loop-give l = l.total + gifts_need (map gift_of (drop l.give-index l.list)) ≡ gifts_need (map gift_of l.list)
