-- A CR without its LF ends no piece.
use Rattle.std.proofs.Common.{◌∙◌, sym, arith}
use Rattle.prof_raw.proofs.PieceLemmas.{len-further}
use Rattle.prof_raw.proofs.read.piece_end.Goals as goal

pub loop-place-preserved : goal.loop-place-preserved
loop-place-preserved c =
    let some = c.in-Some.ensures.some in
    let plain = sym c.is_line_end.ensures ∙ c.if-is_line_end.false in
    record {
      walked = omega (arith, c.loop-place.invariant.walked, some.2, len-further c.args.body.now c.in-Some.place some.1 plain);
      within = omega (arith, some.1);
    }
