-- The calls so far were interrupted, and took nothing.
use Rattle.std.specs.Io.KnownBytes.{Keeps}
use Rattle.beep_std.proofs.tries.read_once.Given as goal

abbrev pub invariant-loop : goal.invariant-loop
invariant-loop g l = Keeps (g.R.Read.remaining l.initial.from) (g.R.Read.remaining l.from)
