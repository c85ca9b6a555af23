use Rattle.std.proofs.Common.{◌∙◌, sym, arith}
use Rattle.prof_raw.proofs.EntryLemmas.{entry-at, piece-place}
use Rattle.prof_raw.proofs.read.next_entry.Goals as goal

pub returns-clause-entry : goal.returns-clause-entry
returns-clause-entry c =
    let start = c.after_ends-start in
    sym start.ensures.same
    ∙ entry-at c.args.body.now start.result c.piece_end-end.result (omega (arith, c.if-start-body.false, start.ensures.place)) start.ensures.none c.piece_end-end.ensures

pub returns-clause-place : goal.returns-clause-place
returns-clause-place c =
    let start = c.after_ends-start in
    let place = piece-place c.args.body.now start.result c.piece_end-end.result (omega (arith, c.if-start-body.false, start.ensures.place)) start.ensures.none c.piece_end-end.ensures in
    (start.ensures.place.0, place.0, place.1)
