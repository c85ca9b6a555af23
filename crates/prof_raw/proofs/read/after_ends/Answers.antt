use Rattle.std.proofs.Common.{◌∙◌, sym, arith}
use Rattle.prof_raw.proofs.EntryLemmas.{skipped-at, end-within}
use Rattle.prof_raw.proofs.read.after_ends.Goals as goal

pub loop-at-preserved : goal.loop-at-preserved
loop-at-preserved c =
    let here = sym c.is_line_end.ensures ∙ c.loop-at-test.true in
    record {
      after = omega (arith, c.loop-at.invariant.after);
      within = end-within c.args.body.now c.loop-at.at here;
      same = skipped-at c.args.body.now c.loop-at.at here ∙ c.loop-at.invariant.same;
    }

pub loop-at-smaller : goal.loop-at-smaller
loop-at-smaller c =
    let here = sym c.is_line_end.ensures ∙ c.loop-at-test.true in
    omega (arith, end-within c.args.body.now c.loop-at.at here)
