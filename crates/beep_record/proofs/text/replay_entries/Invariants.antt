use Rattle.std.proofs.Common.{ℕ, List, ◌++◌, take}
use Rattle.beep_journal.specs.Log.{Entry, flat}
use Rattle.beep_record.specs.Logged.{log_of}
use Rattle.beep_record.specs.Replaying.{Follows}
use Rattle.beep_record.specs.TextReplaying.{HasEntries}
use Rattle.beep_record.proofs.text.replay_entries.Given as goal

abbrev pub invariant-loop-entry : goal.invariant-loop-entry
invariant-loop-entry l = record {
  has : HasEntries l.replayer l.out.octets;
  follows : (log : List Entry) (old : List ℕ) → Follows l.fn.replayer (flat log) old l.fn.out.octets
      → Follows l.replayer (flat (log_of (take l.entry-index l.entry-items) ++ log)) old l.out.octets;
}
