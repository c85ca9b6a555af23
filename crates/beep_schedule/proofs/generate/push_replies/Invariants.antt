use Rattle.std.proofs.Common.{◌≡◌, ◌++◌, map}
use Rattle.std.specs.List.{range_with_len}
use Rattle.beep_schedule.specs.Generated.{reply_to}
use Rattle.beep_schedule.proofs.generate.push_replies.Given as goal

abbrev pub invariant-loop-i : goal.invariant-loop-i
invariant-loop-i l = l.schedule ≡ l.fn.schedule ++ map reply_to (range_with_len 0 l.i)
