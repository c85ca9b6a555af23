-- No read has given 0 yet.
use Rattle.std.proofs.Common.{◌≡◌, false}
use Rattle.wire_cases.proofs.sources.read_all.Given as goal

abbrev pub invariant-loop : goal.invariant-loop
invariant-loop g l = (g.S.Source.state l.source).ended ≡ false
