use Rattle.std.proofs.Common.{arith}
use Rattle.beep_frame.proofs.FindLemmas.{trailer_more, trailer_bad}
use Rattle.beep_frame.proofs.finder.find_trailer.Goals as goal

pub returns-then-count-bytes-clause-found : goal.returns-then-count-bytes-clause-found
returns-then-count-bytes-clause-found c =
    λ rest known line at. trailer_more rest c.args.bytes.now known c.args.at c.matched-count.result at.0 at.1 at.2 at.3 (omega arith) c.matched-count.ensures.same line c.if-count-bytes.true (omega arith)

pub returns-clause-found : goal.returns-clause-found
returns-clause-found c =
    λ rest known line at. trailer_bad rest c.args.bytes.now known c.args.at c.matched-count.result at.0 at.1 at.2 at.3 (omega arith) c.matched-count.ensures.same (omega arith) (omega arith) (c.matched-count.ensures.other (omega arith) (omega arith))
