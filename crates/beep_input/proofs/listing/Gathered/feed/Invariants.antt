use Rattle.std.proofs.Common.{ℕ, ◌≤◌, ◌+◌, ◌-◌, List, ◌++◌, length, take}
use Rattle.beep_input.specs.Listing.{Holds}
use Rattle.beep_input.proofs.listing.Gathered.feed.Given as goal

abbrev pub invariant-loop-at : goal.invariant-loop-at
invariant-loop-at l = record {
  within : l.at ≤ length l.octets;
  few : l.self.listing.number ≤ l.initial.self.listing.number + l.at;
  held : (before : List ℕ) → Holds before l.initial.self → Holds (before ++ take l.at l.octets) l.self;
}

abbrev pub decreases-loop-at : goal.decreases-loop-at
decreases-loop-at l = length l.octets - l.at
