-- The log shows what may still be read, and so do the reads; and the end stands for the log.
use Rattle.std.proofs.Common.{◌≡◌, ℕ, List, ◌≤◌, ◌+◌, ◌*◌, false, []}
use Rattle.beep_link.specs.Between.{IsBetween}
use Rattle.beep_link.specs.Causes.{CountsQuiet, CountsReads, Grows, IsBounded, Keeps, reads_left, ReadsWhere, TellsLeft, WhereKnown, WithText}
use Rattle.beep_link.specs.declared.ended.Ended.{Ended}
use Rattle.beep_link.proofs.turns.run_turns.Given as goal

abbrev pub invariant-loop-ended : goal.invariant-loop-ended
invariant-loop-ended g l =
    let W = g.W.Wires in
    record {
      between : IsBetween l.buffers;
      terms : g.E.End.terms l.end ≡ g.E.End.terms l.fn.end;
      stands : g.E.End.stands l.fn.end [] [] [] → WithText (g.O.Sink.state l.fn.output).written (g.O.Sink.state l.output).written (λ text. WhereKnown (λ log. g.E.End.stands l.end log [] text) (W.state l.wires l.link).log);
      waits : g.E.End.stands l.fn.end [] [] [] → WhereKnown (ReadsWhere (λ log. (text : List ℕ) × g.E.End.tells (g.E.End.terms l.fn.end) (Ended.Idle 0) log text)) (W.state l.wires l.link).log;
      going : (W.state l.wires l.link).has_ended ≡ false;
      shown : TellsLeft l.reads l.left (W.state l.wires l.link).log;
      bounded : IsBounded l.reads (W.state l.wires l.link).log;
      counted : CountsQuiet (W.counts l.fn.wires).quiets l.left (W.counts l.wires).quiets;
      came : CountsReads l.reads (W.state l.fn.wires l.link).reads l.left (W.state l.wires l.link).reads;
      keeps : Keeps l.link (record { state = W.state l.fn.wires; counts = W.counts l.fn.wires; asked = W.asked l.fn.wires; lent = W.lent l.fn.wires })
          (record { state = W.state l.wires; counts = W.counts l.wires; asked = W.asked l.wires; lent = W.lent l.wires });
      grew : Grows (g.O.Sink.state l.fn.output).written (g.O.Sink.state l.output).written;
      unfailed : (W.state l.fn.wires l.link).faults ≡ (W.state l.wires l.link).faults;
      kept : (g.O.Sink.state l.fn.output).faults ≤ (g.O.Sink.state l.output).faults;
      reads : (W.state l.wires l.link).reads + reads_left l.reads l.left ≤ (W.state l.fn.wires l.link).reads + l.reads.octets * l.reads.idle;
    }

abbrev pub decreases-loop-ended : goal.decreases-loop-ended
decreases-loop-ended g l = reads_left l.reads l.left
