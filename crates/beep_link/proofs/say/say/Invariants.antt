-- Whatever was written, all else stays, and the end stands for the log.
use Rattle.std.proofs.Common.{◌≡◌, [], ℕ, List}
use Rattle.beep_link.specs.Causes.{GrewByWrites, Keeps, SameReads, WhereKnown}
use Rattle.beep_link.proofs.say.say.Given as goal

abbrev pub invariant-loop : goal.invariant-loop
invariant-loop g l =
    let W = g.W.Wires in
    let E = g.E.End in
    record {
      empty : l.going.octets ≡ [];
      terms : E.terms l.end ≡ E.terms l.initial.end;
      stands : (text : List ℕ) → WhereKnown (λ log. E.stands l.initial.end log [] text) (W.state l.initial.wires l.link).log
          → WhereKnown (λ log. E.stands l.end log [] text) (W.state l.wires l.link).log;
      unfailed : (W.state l.wires l.link).faults ≡ (W.state l.initial.wires l.link).faults;
      keeps : Keeps l.link (record { state = W.state l.initial.wires; counts = W.counts l.initial.wires; asked = W.asked l.initial.wires; lent = W.lent l.initial.wires })
          (record { state = W.state l.wires; counts = W.counts l.wires; asked = W.asked l.wires; lent = W.lent l.wires });
      writes : GrewByWrites (W.state l.initial.wires l.link).log (W.state l.wires l.link).log;
      same_counts : W.counts l.wires ≡ W.counts l.initial.wires;
      same_reads : SameReads (W.state l.initial.wires l.link) (W.state l.wires l.link);
    }
