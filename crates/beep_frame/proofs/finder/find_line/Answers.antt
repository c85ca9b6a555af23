use Rattle.std.proofs.Common.{sym, ◌∙◌}
use Rattle.beep_frame.proofs.HeaderLemmas.{at_once}
use Rattle.beep_frame.proofs.FindLemmas.{line_finds}
use Rattle.beep_frame.proofs.finder.find_line.Goals as goal

pub returns-clause-found : goal.returns-clause-found
returns-clause-found c =
    λ rest known at. line_finds c.args.line.now rest c.args.bytes.now known c.read_line.result.0 at c.read_line.result.1 c.read_line.new.line c.read_line.ensures.turn c.read_line.ensures.within c.read_line.ensures.used

pub returns-in-Some-clause-found : goal.returns-in-Some-clause-found
returns-in-Some-clause-found c =
    λ rest known at. at_once c.args.line.now rest c.args.bytes.now c.in-Some.rest.now known c.in-Some.head (sym c.is_at_start.ensures ∙ c.if-is_at_start.true) at c.in-Some.ensures.0 c.in-Some.ensures.1
