-- The entries before the place are written, and there is room for the rest.
use Rattle.std.proofs.Common.{◌≡◌, ◌≤◌, ◌++◌, length, take, drop, flat_map}
use Rattle.prof_raw.specs.Entries.{line_end}
use Rattle.prof_raw.proofs.write.body_of.Given as goal

abbrev pub invariant-loop-i : goal.invariant-loop-i
invariant-loop-i l = record {
  written : l.out.octets ≡ (l.fn.out.octets ++ line_end) ++ flat_map (λ entry. entry ++ line_end) (take l.i l.list);
  room : length (flat_map (λ entry. entry ++ line_end) (drop l.i l.list)) ≤ l.out.spare;
}
