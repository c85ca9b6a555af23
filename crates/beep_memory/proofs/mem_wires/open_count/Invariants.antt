-- The links before the place are counted.
use Rattle.std.proofs.Common.{◌≡◌, ◌≤◌, ◌-◌, length, []}
use Rattle.std.specs.List.{slice_get}
use Rattle.beep_wires.specs.Links.{open_among}
use Rattle.beep_memory.specs.Wiring.{link_of}
use Rattle.beep_memory.proofs.mem_wires.open_count.Given as goal

abbrev pub invariant-loop-at : goal.invariant-loop-at
invariant-loop-at l = record {
  counted : l.count ≡ open_among (λ link. link_of [] (slice_get l.links.items link)) l.at;
  few : l.count ≤ l.at;
  within : l.at ≤ length l.links.items;
}

abbrev pub decreases-loop-at : goal.decreases-loop-at
decreases-loop-at l = length l.links.items - l.at
