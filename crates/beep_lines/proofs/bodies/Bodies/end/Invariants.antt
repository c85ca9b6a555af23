-- Each other answer stays.
use Rattle.beep_lines.specs.Bodies.{Others}
use Rattle.beep_lines.proofs.BodyLemmas.{matching}
use Rattle.beep_lines.proofs.bodies.Bodies.end.Given as goal

abbrev pub invariant-loop-i : goal.invariant-loop-i
invariant-loop-i l = Others l.channel l.ansno l.fn.self l.self

abbrev pub decreases-loop-i : goal.decreases-loop-i
decreases-loop-i l = matching l.channel l.ansno l.self
