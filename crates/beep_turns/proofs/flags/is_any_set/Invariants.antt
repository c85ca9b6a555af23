-- What was looked at so far has a set flag or none.
use Rattle.std.proofs.Common.{◌≡◌, take}
use Rattle.std.specs.List.{list_any}
use Rattle.beep_turns.proofs.flags.is_any_set.Given as goal

abbrev pub invariant-loop-flag : goal.invariant-loop-flag
invariant-loop-flag l = l.any ≡ list_any (λ flag. flag) (take l.flag-index l.fn.flags)
