-- The octets before the place are written on the link, and all else stays.
use Rattle.std.proofs.Common.{◌≡◌, true, length, take, ◌-◌, ◌≤◌}
use Rattle.beep_wires.specs.Links.{SameBeside}
use Rattle.beep_wires.specs.Writing.{Wrote}
use Rattle.beep_wires.proofs.link_transfer.write_link.Given as goal

abbrev pub invariant-loop-at : goal.invariant-loop-at
invariant-loop-at g l = record {
  within : l.at ≤ length l.bytes;
  alive : (g.W.Wires.state l.wires l.link).is_open ≡ true;
  end : (g.W.Wires.state l.wires l.link).has_ended ≡ (g.W.Wires.state l.initial.wires l.link).has_ended;
  unfailed : (g.W.Wires.state l.wires l.link).faults ≡ (g.W.Wires.state l.initial.wires l.link).faults;
  counted : (g.W.Wires.state l.wires l.link).reads ≡ (g.W.Wires.state l.initial.wires l.link).reads;
  others : SameBeside l.link (g.W.Wires.state l.initial.wires) (g.W.Wires.state l.wires);
  same_counts : g.W.Wires.counts l.wires ≡ g.W.Wires.counts l.initial.wires;
  same_asked : g.W.Wires.asked l.wires ≡ g.W.Wires.asked l.initial.wires;
  same_lent : g.W.Wires.lent l.wires ≡ g.W.Wires.lent l.initial.wires;
  empty : length l.bytes ≡ 0 → l.wires ≡ l.initial.wires;
  wrote : Wrote l.link (record { log = (g.W.Wires.state l.initial.wires l.link).log; story = g.W.Wires.story l.initial.wires })
      (record { log = (g.W.Wires.state l.wires l.link).log; story = g.W.Wires.story l.wires }) (take l.at l.bytes);
}

abbrev pub decreases-loop-at : goal.decreases-loop-at
decreases-loop-at g l = length l.bytes - l.at
