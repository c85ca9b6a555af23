use Rattle.std.proofs.Common.{◌≡◌, [], take, drop}
use Rattle.beep_mime.specs.Split.{lines_after}
use Rattle.beep_mime.proofs.split.first_line.Given as goal

abbrev pub invariant-loop-i : goal.invariant-loop-i
invariant-loop-i l = lines_after [] l.bytes ≡ lines_after (take l.i l.bytes) (drop l.i l.bytes)
