use Rattle.std.proofs.Common.{◌∙◌, sym}
use Rattle.beep_pair.specs.Steps.{TakesStep}
use Rattle.beep_pair.specs.Draining.{PartsOf, begins, TookOut}
use Rattle.beep_pair.proofs.LeadLemmas.{none-leads, leads-then}
use Rattle.beep_pair.proofs.DrainLemmas.{parts-more, parts-last}
use Rattle.beep_pair.proofs.pair.Pair.take_out.Goals as goal

pub loop-at-init : goal.loop-at-init
loop-at-init c = record { led = none-leads (PartsOf c.args.at c.args.n) c.args.self.now (λ world w k. begins); ready = c.requires.ready; room = c.requires.room }

pub loop-at-preserved : goal.loop-at-preserved
loop-at-preserved c = record {
  led = leads-then (PartsOf c.args.at c.args.n) (TakesStep c.args.at c.args.n _ c.take.result c.take.new.buf) (PartsOf c.args.at c.args.n) c.args.self.now c.loop-at.self c.take.new.self c.loop-at.invariant.led
      c.take.ensures.taken (λ first old new wa ka wb kb wc kc p t. parts-more c.args.at c.args.n _ c.take.result c.take.new.buf first old new c.loop-at.invariant.room p t (sym c.is_some.ensures ∙ c.loop-at-test.true));
  ready = c.take.ensures.ready;
  room = c.take.ensures.room ∙ c.loop-at.invariant.room;
}

pub returns-clause-took : goal.returns-clause-took
returns-clause-took c =
    leads-then (PartsOf c.args.at c.args.n) (TakesStep c.args.at c.args.n _ c.take.result c.take.new.buf) (TookOut c.args.at c.args.n) c.args.self.now c.loop-at.self c.take.new.self c.loop-at.invariant.led
    c.take.ensures.taken (λ first old new wa ka wb kb wc kc p t. parts-last c.args.at c.args.n _ c.take.result c.take.new.buf first old new wb p t (sym c.is_some.ensures ∙ c.loop-at-test.false))
