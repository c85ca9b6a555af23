-- Each take leaves less, until nothing is left.
use Rattle.std.proofs.Common.{List, sym, subst, refl, ◌∙◌}
use Rattle.beep_standing.specs.beep_channel.specs.Held.{Live}
use Rattle.beep_hearing.specs.Hears.{Passes, KeepsOthers}
use Rattle.beep_hearing.proofs.DropLemmas.{drops-none, drops-more, dropped, zero-stays, keeps-none, keeps-taken, keeps-both}
use Rattle.beep_hearing.proofs.TextLemmas.{takes-length}
use Rattle.beep_hearing.proofs.hear.drop_untaken.Goals as goal

pub returns-clause-passes : goal.returns-clause-passes
returns-clause-passes c size earlier journal given taken s =
    subst (λ (channels : List Live). Passes size earlier journal given taken channels) (sym c.in_default.ensures.kept)
    (dropped size earlier journal given taken c.loop-part.lives (c.loop-part.invariant.drops size earlier journal given taken s) c.in_default.ensures.none)

pub returns-clause-others : goal.returns-clause-others
returns-clause-others c = subst (λ (channels : List Live). KeepsOthers 0 c.args.lives.now channels) (sym c.in_default.ensures.kept) c.loop-part.invariant.others

pub loop-part-init : goal.loop-part-init
loop-part-init c = record {
  live = c.requires.live;
  sized = refl;
  drops = λ size earlier journal given taken s. drops-none size earlier journal given taken c.args.lives.now s;
  others = keeps-none 0 c.args.lives.now;
}

pub loop-part-preserved : goal.loop-part-preserved
loop-part-preserved c = record {
  live = zero-stays c.loop-part.lives c.take.new.self c.in-Some._part c.loop-part.buf c.take.new.buf c.in-Some.ensures.some;
  sized = takes-length c.in-Some._part c.loop-part.buf c.take.new.buf c.loop-part.lives c.take.new.self c.in-Some.ensures.some ∙ c.loop-part.invariant.sized;
  drops = λ size earlier journal given taken s.
      drops-more size earlier journal given taken c.loop-part.lives c.take.new.self c.in-Some._part c.loop-part.buf c.take.new.buf (c.loop-part.invariant.drops size earlier journal given taken s)
      c.in-Some.ensures.some;
  others = keeps-both 0 c.args.lives.now c.loop-part.lives c.take.new.self c.loop-part.invariant.others
      (keeps-taken c.in-Some._part c.loop-part.buf c.take.new.buf c.loop-part.lives c.take.new.self c.in-Some.ensures.some);
}
