use Rattle.std.proofs.Common.{◌≤◌, ◌*◌, ◌^◌, length, take}
use Rattle.beep_journal.specs.Log.{flat}
use Rattle.beep_record.specs.Logged.{log_of}
use Rattle.beep_record.specs.Replaying.{Follows}
use Rattle.beep_record.proofs.report.replay.Given as goal

abbrev pub invariant-loop-entry : goal.invariant-loop-entry
invariant-loop-entry l = record {
  follows : Follows l.replayer (flat (log_of (take l.entry-index l.entry-items))) l.fn.out.octets l.out.octets;
  small : length (flat (log_of (take l.entry-index l.entry-items))) ≤ l.entry-index * 2 ^ 64;
}
