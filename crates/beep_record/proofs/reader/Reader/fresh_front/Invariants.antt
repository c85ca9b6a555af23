use Rattle.std.proofs.Common.{◌≡◌, ◌-◌, ◌≤◌, length, take, Some}
use Rattle.beep_record.specs.declared.mode.Mode.{Mode}
use Rattle.beep_record.specs.declared.mode.Part.{Part}
use Rattle.beep_record.specs.Machine.{run}
use Rattle.beep_record.specs.Reading.{state_of}
use Rattle.beep_record.proofs.reader.Reader.fresh_front.Given as goal

abbrev pub invariant-loop-at : goal.invariant-loop-at
invariant-loop-at l = record {
  within : l.at ≤ length l.octets;
  mode : l.self.mode ≡ Mode.Piece l.side Part.Fresh;
  went : run (Some (state_of l.fn.self)) (take l.at l.octets) ≡ Some (state_of l.self);
}

abbrev pub decreases-loop-at : goal.decreases-loop-at
decreases-loop-at l = length l.octets - l.at
