use Rattle.std.proofs.Common.{take}
use Rattle.beep_text.specs.Elements.{IsAlive}
use Rattle.beep_plain.proofs.outcome.stop.Given as goal

abbrev pub invariant-loop-at : goal.invariant-loop-at
invariant-loop-at l = IsAlive (take l.at l.text)
