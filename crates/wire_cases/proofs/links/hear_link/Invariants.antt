-- The link is open, hasn't ended, and no call on it has failed.
use Rattle.std.proofs.Common.{◌≡◌, true, false}
use Rattle.wire_cases.proofs.links.hear_link.Given as goal

abbrev pub invariant-loop : goal.invariant-loop
invariant-loop g l = record {
  alive : (g.W.Wires.state l.wires l.link).is_open ≡ true;
  going : (g.W.Wires.state l.wires l.link).has_ended ≡ false;
  unfailed : (g.W.Wires.state l.wires l.link).faults ≡ 0;
}
