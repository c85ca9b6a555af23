-- Both ends go on, and the output grew by a merge of their texts.
use Rattle.std.proofs.Common.{◌≡◌, ◌++◌, ℕ, [], List, ◌+◌}
use Rattle.beep_link.specs.Between.{IsBetween}
use Rattle.beep_link.specs.Causes.{IsBounded, Look, WhereKnown, reads_left}
use Rattle.turn_tests.specs.Going.{IsGoing}
use Rattle.turn_tests.specs.Shared.{IsShared}
use Rattle.turn_tests.specs.Since.{IsSince, look_at}
use Rattle.turn_tests.specs.Waits.{Waits}
use Rattle.turn_tests.proofs.WaitLemmas.{Stood}
use Rattle.turn_tests.proofs.two.take_turns.Given as goal

abbrev pub invariant-loop-ended : goal.invariant-loop-ended
invariant-loop-ended g l =
    let W = g.W.Wires in
    let E = g.E.End in
    let F = g.F.End in
    let one = l.fn.one.link in
    let other = l.fn.other.link in
    record {
      between : IsBetween l.buffers;
      one_link : l.one.link ≡ one;
      other_link : l.other.link ≡ other;
      one_reads : l.one.reads ≡ l.fn.one.reads;
      other_reads : l.other.reads ≡ l.fn.other.reads;
      one_going : IsGoing (W.state l.wires one) l.one.reads l.one.left;
      other_going : IsGoing (W.state l.wires other) l.other.reads l.other.left;
      terms : E.terms l.one.end ≡ E.terms l.fn.one.end;
      other_terms : F.terms l.other.end ≡ F.terms l.fn.other.end;
      one_since : (before : Look) → IsSince before l.fn.one.reads l.fn.one.left (look_at (W.state l.fn.wires) (W.counts l.fn.wires) one)
          → IsSince before l.one.reads l.one.left (look_at (W.state l.wires) (W.counts l.wires) one);
      other_since : (before : Look) → IsSince before l.fn.other.reads l.fn.other.left (look_at (W.state l.fn.wires) (W.counts l.fn.wires) other)
          → IsSince before l.other.reads l.other.left (look_at (W.state l.wires) (W.counts l.wires) other);
      one_bounded : IsBounded l.fn.one.reads (W.state l.fn.wires one).log → IsBounded l.one.reads (W.state l.wires one).log;
      other_bounded : IsBounded l.fn.other.reads (W.state l.fn.wires other).log → IsBounded l.other.reads (W.state l.wires other).log;
      one_stood : (text : List ℕ) → WhereKnown (λ log. E.stands l.fn.one.end log [] text) (W.state l.fn.wires one).log
          → Stood (λ own log. E.stands l.one.end log [] own) (W.state l.wires one).log;
      one_waits : (text : List ℕ) → WhereKnown (λ log. E.stands l.fn.one.end log [] text) (W.state l.fn.wires one).log
          → Waits (E.tells (E.terms l.fn.one.end)) (W.state l.fn.wires one).log → Waits (E.tells (E.terms l.fn.one.end)) (W.state l.wires one).log;
      other_stood : (text : List ℕ) → WhereKnown (λ log. F.stands l.fn.other.end log [] text) (W.state l.fn.wires other).log
          → Stood (λ own log. F.stands l.other.end log [] own) (W.state l.wires other).log;
      other_waits : (text : List ℕ) → WhereKnown (λ log. F.stands l.fn.other.end log [] text) (W.state l.fn.wires other).log
          → Waits (F.tells (F.terms l.fn.other.end)) (W.state l.fn.wires other).log → Waits (F.tells (F.terms l.fn.other.end)) (W.state l.wires other).log;
      shared : (text late : List ℕ)
          → WhereKnown (λ log. E.stands l.fn.one.end log [] text) (W.state l.fn.wires one).log
          → WhereKnown (λ log. F.stands l.fn.other.end log [] late) (W.state l.fn.wires other).log
          → IsShared (g.O.Sink.state l.fn.output).written (g.O.Sink.state l.output).written
          (λ more. WhereKnown (λ log. E.stands l.one.end log [] (text ++ more)) (W.state l.wires one).log)
          (λ more. WhereKnown (λ log. F.stands l.other.end log [] (late ++ more)) (W.state l.wires other).log);
    }

abbrev pub decreases-loop-ended : goal.decreases-loop-ended
decreases-loop-ended g l = reads_left l.one.reads l.one.left + reads_left l.other.reads l.other.left
