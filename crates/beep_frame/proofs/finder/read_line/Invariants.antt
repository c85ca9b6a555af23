use Rattle.std.proofs.Common.{◌≡◌, take}
use Rattle.beep_frame.specs.Line.{at_line}
use Rattle.beep_frame.specs.Reading.{run}
use Rattle.beep_frame.proofs.finder.read_line.Given as goal

abbrev pub invariant-loop-i : goal.invariant-loop-i
invariant-loop-i l = run (at_line l.initial.line) (take l.i l.bytes) ≡ at_line l.line
