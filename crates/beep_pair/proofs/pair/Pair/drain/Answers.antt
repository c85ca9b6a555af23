use Rattle.std.proofs.Common.{◌≡◌, ◌+◌, ◌∙◌, true, false, length, ap, arith}
use Rattle.beep_pair.specs.Drains.{MOST_ROUNDS}
use Rattle.beep_pair.specs.Draining.{Rounded, Drained}
use Rattle.beep_pair.proofs.LeadLemmas.{none-leads, leads-as, leads-then}
use Rattle.beep_pair.proofs.DrainLemmas.{SoFar, no-round, one-round, last-round, most-rounds, rounded-as}
use Rattle.beep_pair.proofs.pair.Pair.drain.Goals as goal

pub loop-round-init : goal.loop-round-init
loop-round-init c = record {
  led = none-leads (SoFar c.args.max c.args.piece 0 c.args.line.now.octets c.args.line.now.octets) c.args.self.now (λ world w k. no-round c.args.max c.args.piece c.args.line.now.octets world);
  ready = c.requires.ready;
  room = omega (arith, c.in_ok-buffer.ensures.len, ap length c.as_mut_slice-buf.ensures.value);
}

pub returns-then-not-sent-clause-drained : goal.returns-then-not-sent-clause-drained
returns-then-not-sent-clause-drained c =
    let max = c.args.max in
    let piece = c.args.piece in
    let line = c.args.line.now.octets in
    leads-then (SoFar max piece c.loop-round._round line c.loop-round.line.octets) (Rounded max piece c.in_ok-sent.sent c.loop-round.line.octets c.round.new.line.octets)
    (Drained max piece line c.round.new.line.octets) c.args.self.now c.loop-round.self c.round.new.self c.loop-round.invariant.led c.in_ok-sent.ensures.rounded
    (λ first old new wa ka wb kb wc kc s r. last-round max piece c.loop-round._round line c.loop-round.line.octets c.round.new.line.octets first old new s
    (rounded-as max piece c.in_ok-sent.sent false c.loop-round.line.octets c.round.new.line.octets old new c.if-not-sent.true r))

pub loop-round-preserved : goal.loop-round-preserved
loop-round-preserved c =
    let max = c.args.max in
    let piece = c.args.piece in
    let line = c.args.line.now.octets in
    record {
      led = leads-then (SoFar max piece c.loop-round._round line c.loop-round.line.octets) (Rounded max piece c.in_ok-sent.sent c.loop-round.line.octets c.round.new.line.octets)
          (SoFar max piece (c.loop-round._round + 1) line c.round.new.line.octets) c.args.self.now c.loop-round.self c.round.new.self c.loop-round.invariant.led c.in_ok-sent.ensures.rounded
          (λ first old new wa ka wb kb wc kc s r. one-round max piece c.loop-round._round line c.loop-round.line.octets c.round.new.line.octets first old new s
          (rounded-as max piece c.in_ok-sent.sent true c.loop-round.line.octets c.round.new.line.octets old new c.if-not-sent.false r));
      ready = c.in_ok-sent.ensures.ready;
      room = c.in_ok-sent.ensures.room ∙ c.loop-round.invariant.room;
    }

pub returns-clause-drained : goal.returns-clause-drained
returns-clause-drained c =
    let max = c.args.max in
    let piece = c.args.piece in
    let line = c.args.line.now.octets in
    let most : c.loop-round._round ≡ MOST_ROUNDS = omega arith in
    leads-as (SoFar max piece c.loop-round._round line c.loop-round.line.octets) (Drained max piece line c.loop-round.line.octets) c.args.self.now c.loop-round.self c.loop-round.invariant.led
    (λ first now wa ka wb kb s. most-rounds max piece c.loop-round._round line c.loop-round.line.octets first now s most)
