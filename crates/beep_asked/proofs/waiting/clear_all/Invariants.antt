use Rattle.std.proofs.Common.{◌≡◌, ◌++◌, take, drop, map}
use Rattle.std.specs.VecDeque.{deque_len, deque_capacity}
use Rattle.beep_asked.specs.Kept.{clear_one}
use Rattle.beep_asked.specs.Request.{all_kept}
use Rattle.beep_asked.proofs.waiting.clear_all.Given as goal

-- those before the place are cleared, and the others are as they were
abbrev pub invariant-loop-i : goal.invariant-loop-i
invariant-loop-i l =
    (all_kept l.list.items ≡ map (clear_one l.number) (take l.i (all_kept l.initial.list.items)) ++ drop l.i (all_kept l.initial.list.items))
    × (deque_len l.list ≡ deque_len l.initial.list)
    × (deque_capacity l.list ≡ deque_capacity l.initial.list)
