use Rattle.std.proofs.Common.{arith, refl}
use Rattle.beep_frame.proofs.FindLemmas.{payload_more, payload_whole, shifted}
use Rattle.beep_frame.proofs.finder.find_payload.Goals as goal

pub returns-then-count-from-clause-found : goal.returns-then-count-from-clause-found
returns-then-count-from-clause-found c =
    λ rest known line at. payload_more rest c.args.bytes.now known c.args.left at.0 at.1 at.2 at.3 line (omega arith)

pub returns-clause-found : goal.returns-clause-found
returns-clause-found c =
    λ rest known line at. shifted rest c.args.bytes.now _ c.args.left c.find_trailer-count.result.0 (omega arith) refl c.find_trailer-count.result.1 c.find_trailer-count.new.place line known (c.find_trailer-count.ensures.found _ known line (payload_whole rest c.args.bytes.now known c.args.left at.0 at.1 at.2 at.3 line (omega arith)))
