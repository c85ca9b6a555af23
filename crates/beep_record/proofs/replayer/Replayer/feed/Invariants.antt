use Rattle.std.proofs.Common.{◌-◌, ◌≤◌, List, ℕ, length, take}
use Rattle.beep_journal.specs.Log.{Moment}
use Rattle.beep_record.specs.Replaying.{Follows, many}
use Rattle.beep_record.proofs.replayer.Replayer.feed.Given as goal

abbrev pub invariant-loop-at : goal.invariant-loop-at
invariant-loop-at l = record {
  within : l.at ≤ length l.octets;
  follows : (log : List Moment) (old : List ℕ) → Follows l.fn.self log old l.fn.out.octets
      → Follows l.self (many l.fn.side (take l.at l.octets) log) old l.out.octets;
}

abbrev pub decreases-loop-at : goal.decreases-loop-at
decreases-loop-at l = length l.octets - l.at
