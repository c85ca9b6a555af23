-- A write goes on from the place, and a failed one leaves what stands before it.
use Rattle.std.proofs.Common.{arith, ◌∙◌}
use Rattle.beep_wires.proofs.WriteLemmas.{wrote_more, wrote_front}
use Rattle.beep_wires.proofs.link_transfer.write_link.Goals as goal

pub loop-at-preserved : goal.loop-at-preserved
loop-at-preserved g c = record {
  within = omega (arith, c.in-Ok.ensures.within);
  alive = c.in-Ok.ensures.still_open;
  end = c.in-Ok.ensures.end ∙ c.loop-at.invariant.end;
  unfailed = c.in-Ok.ensures.unfailed ∙ c.loop-at.invariant.unfailed;
  counted = c.in-Ok.ensures.counted ∙ c.loop-at.invariant.counted;
  others = λ other ne. c.in-Ok.ensures.others other ne ∙ c.loop-at.invariant.others other ne;
  same_counts = c.in-Ok.ensures.same_counts ∙ c.loop-at.invariant.same_counts;
  same_asked = c.in-Ok.ensures.same_asked ∙ c.loop-at.invariant.same_asked;
  same_lent = c.in-Ok.ensures.same_lent ∙ c.loop-at.invariant.same_lent;
  empty = λ none. absurd (omega arith);
  wrote = wrote_more _ _ _ _ _ c.loop-at.at c.loop-at.invariant.wrote _ c.in-Ok.ensures.logged c.in-Ok.ensures.entered;
}

pub returns-in-Err-clause-front : goal.returns-in-Err-clause-front
returns-in-Err-clause-front g c =
    wrote_front _ _ _ _ _ c.loop-at.at c.loop-at.invariant.wrote c.in-Err.ensures.logged c.in-Err.ensures.entered

pub returns-in-Err-clause-others : goal.returns-in-Err-clause-others
returns-in-Err-clause-others g c = λ other ne. c.in-Err.ensures.others other ne ∙ c.loop-at.invariant.others other ne
