use Rattle.std.proofs.Common.{arith, length}
use Rattle.prof_raw.proofs.ListLemmas.{cut-get, rises-get}
use Rattle.prof_raw.proofs.list.entry_in.Goals as goal

pub returns : goal.returns
returns c = rw c.start_of-start.ensures (cut-get 0 c.args.octets.now c.args.ends.now c.args.i c.requires.within)

pub slice_bounds-result-count : goal.slice_bounds-result-count
slice_bounds-result-count c =
    let rises = rises-get 0 c.args.ends.now (length c.args.octets.now) c.args.i c.requires.rises c.requires.within in
    omega (arith, rises.0, c.start_of-start.ensures)

pub slice_bounds-result-end : goal.slice_bounds-result-end
slice_bounds-result-end c =
    let rises = rises-get 0 c.args.ends.now (length c.args.octets.now) c.args.i c.requires.rises c.requires.within in
    omega (arith, rises.1)

pub slice_bounds-result-start : goal.slice_bounds-result-start
slice_bounds-result-start c =
    let rises = rises-get 0 c.args.ends.now (length c.args.octets.now) c.args.i c.requires.rises c.requires.within in
    omega (arith, rises.0, rises.1, c.start_of-start.ensures)
