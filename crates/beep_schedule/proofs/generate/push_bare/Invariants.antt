use Rattle.std.proofs.Common.{◌≡◌, ◌++◌, map}
use Rattle.std.specs.List.{range_with_len}
use Rattle.beep_schedule.specs.Generated.{bare_of}
use Rattle.beep_schedule.proofs.generate.push_bare.Given as goal

abbrev pub invariant-loop-j : goal.invariant-loop-j
invariant-loop-j l = l.schedule ≡ l.fn.schedule ++ map (bare_of l.act) (range_with_len 0 l.j)
