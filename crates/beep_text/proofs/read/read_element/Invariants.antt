use Rattle.std.proofs.Common.{◌≡◌, take, Some}
use Rattle.beep_text.specs.Machine.{start, run}
use Rattle.beep_text.specs.Reading.{state_of}
use Rattle.beep_text.proofs.read.read_element.Given as goal

abbrev pub invariant-loop-i : goal.invariant-loop-i
invariant-loop-i l = run (Some start) (take l.i l.body) ≡ Some (state_of l.reader)
