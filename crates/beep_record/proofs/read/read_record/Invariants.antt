use Rattle.std.proofs.Common.{◌-◌, ◌≤◌, length}
use Rattle.beep_record.specs.Reading.{state_of}
use Rattle.beep_record.proofs.ReadLemmas.{Read}
use Rattle.beep_record.proofs.read.read_record.Given as goal

abbrev pub invariant-loop-i : goal.invariant-loop-i
invariant-loop-i l = record {
  within : l.i ≤ length l.text;
  ran : Read l.text l.i (state_of l.reader);
}

abbrev pub decreases-loop-i : goal.decreases-loop-i
decreases-loop-i l = length l.text - l.i
