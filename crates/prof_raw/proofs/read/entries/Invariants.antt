-- The entries so far, and those from the place on, are those of the body.
use Rattle.std.proofs.Common.{◌≡◌, ◌-◌, ◌≤◌, ◌++◌, length, drop}
use Rattle.prof_raw.specs.Entries.{entries_of}
use Rattle.prof_raw.proofs.read.entries.Given as goal

abbrev pub invariant-loop-place : goal.invariant-loop-place
invariant-loop-place l = record {
  within : l.at ≤ length l.body;
  whole : l.list ++ entries_of (drop l.at l.body) ≡ entries_of l.body;
}

abbrev pub decreases-loop-place : goal.decreases-loop-place
decreases-loop-place l = length l.body - l.at
