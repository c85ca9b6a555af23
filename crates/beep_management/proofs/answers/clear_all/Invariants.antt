use Rattle.std.proofs.Common.{◌≡◌, ◌++◌, take, drop, map}
use Rattle.std.specs.VecDeque.{deque_len, deque_capacity}
use Rattle.beep_management.specs.Managed.{one_without}
use Rattle.beep_management.specs.Values.{all_prepared}
use Rattle.beep_management.proofs.answers.clear_all.Given as goal

-- those before the place are cleared, and the others are as they were
abbrev pub invariant-loop-i : goal.invariant-loop-i
invariant-loop-i l =
    (all_prepared l.list.items ≡ map (one_without l.number) (take l.i (all_prepared l.initial.list.items)) ++ drop l.i (all_prepared l.initial.list.items))
    × (deque_len l.list ≡ deque_len l.initial.list)
    × (deque_capacity l.list ≡ deque_capacity l.initial.list)
