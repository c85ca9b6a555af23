use Rattle.std.proofs.Common.{◌-◌, length}
use Rattle.beep_schedule.proofs.TextLemmas.{Read}
use Rattle.beep_schedule.proofs.read.read_schedule.Given as goal

abbrev pub invariant-loop-i : goal.invariant-loop-i
invariant-loop-i l = Read l.text l.i l.number l.schedule

abbrev pub decreases-loop-i : goal.decreases-loop-i
decreases-loop-i l = length l.text - l.i
