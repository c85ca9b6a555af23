-- What a write took is counted once.
use Rattle.std.proofs.Common.{ℕ, subst, sym, take}
use Rattle.beep_lines.specs.Counting.{Counts}
use Rattle.beep_lines.proofs.CountLemmas.{counts-on, counts-same}
use Rattle.beep_lines.proofs.counted.CountedSinkSink.write.Goals as goal

pub invariant_of-self : goal.invariant_of-self
invariant_of-self g c =
    let state = g.O.Sink.state in
    let self = c.args.self.now in
    record {
      same = self.same;
      counted = counts-same g.K.Counting.known (state self.output.now).written (state c.write.new.self).written self.lines c.in_err-taken.ensures.octets self.counted;
    }

pub invariant_of-self-2 : goal.invariant_of-self-2
invariant_of-self-2 g c =
    let state = g.O.Sink.state in
    let self = c.args.self.now in
    let known = g.K.Counting.known in
    let now = (state c.write.new.self).written in
    let taken = take c.in_ok-taken.taken c.args.bytes.now in
    record {
      same = self.same;
      counted = subst (λ (n : ℕ). Counts known now n) (sym c.lines_after-self.ensures)
          (counts-on known (state self.output.now).written now self.lines taken c.in_ok-taken.ensures.octets self.counted);
    }
