use Rattle.std.proofs.Common.{◌≡◌, ◌++◌}
use Rattle.std.specs.List.{range_with_len, flat_map}
use Rattle.beep_schedule.specs.Generated.{request_events}
use Rattle.beep_schedule.proofs.generate.push_requests.Given as goal

abbrev pub invariant-loop-i : goal.invariant-loop-i
invariant-loop-i l = l.schedule ≡ l.fn.schedule ++ flat_map (request_events l.seed) (range_with_len 0 l.i)
