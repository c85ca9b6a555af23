-- What stands from the place on has the entries that stood from the first one on.
use Rattle.std.proofs.Common.{◌≡◌, ◌-◌, ◌≤◌, length, drop}
use Rattle.prof_raw.specs.Entries.{entries_of}
use Rattle.prof_raw.proofs.read.after_ends.Given as goal

abbrev pub invariant-loop-at : goal.invariant-loop-at
invariant-loop-at l = record {
  after : l.fn.from ≤ l.at;
  within : l.at ≤ length l.body;
  same : entries_of (drop l.at l.body) ≡ entries_of (drop l.fn.from l.body);
}

abbrev pub decreases-loop-at : goal.decreases-loop-at
decreases-loop-at l = length l.body - l.at
