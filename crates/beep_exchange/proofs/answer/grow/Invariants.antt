use Rattle.std.proofs.Common.{◌≡◌, ◌++◌, take, drop, map}
use Rattle.beep_exchange.specs.Kept.{grown}
use Rattle.beep_exchange.proofs.answer.grow.Given as goal

abbrev pub invariant-loop-i : goal.invariant-loop-i
invariant-loop-i l = l.answers ≡ map (grown l.number l.size) (take l.i l.initial.answers) ++ drop l.i l.initial.answers
