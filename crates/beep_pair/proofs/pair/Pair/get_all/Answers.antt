use Rattle.std.proofs.Common.{arith}
use Rattle.beep_pair.specs.Steps.{GetsStep}
use Rattle.beep_pair.specs.Drains.{Pieces, no_piece, piece_more, GotAll}
use Rattle.beep_pair.proofs.LeadLemmas.{none-leads, leads-then}
use Rattle.beep_pair.proofs.DrainLemmas.{got-all}
use Rattle.beep_pair.proofs.pair.Pair.get_all.Goals as goal

pub loop-init : goal.loop-init
loop-init c = record { led = none-leads (Pieces c.args.at c.args.piece) c.args.self.now (λ world w k. no_piece); ready = c.requires.ready }

pub loop-preserved : goal.loop-preserved
loop-preserved c = record {
  led = leads-then (Pieces c.args.at c.args.piece) (GetsStep c.args.at c.args.piece c.in_ok-get.field-0) (Pieces c.args.at c.args.piece) c.args.self.now c.loop.self c.get.new.self c.loop.invariant.led
      c.in_ok-get.ensures.got (λ first old new wa ka wb kb wc kc p t. piece_more c.in_ok-get.field-0 old new p t);
  ready = c.in_ok-get.ensures.ready;
}

pub returns-clause-got : goal.returns-clause-got
returns-clause-got c =
    leads-then (Pieces c.args.at c.args.piece) (GetsStep c.args.at c.args.piece c.in_ok-get.field-0) (GotAll c.args.at c.args.piece) c.args.self.now c.loop.self c.get.new.self c.loop.invariant.led
    c.in_ok-get.ensures.got
    (λ first old new wa ka wb kb wc kc p t. got-all c.args.at c.args.piece first new c.get.new.self (piece_more c.in_ok-get.field-0 old new p t) kc (c.in_ok-get.ensures.all (omega arith) c.requires.some))
