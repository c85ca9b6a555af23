use Rattle.std.proofs.Common.{length}
use Rattle.beep_pair.specs.Sessions.{AreReady}
use Rattle.beep_pair.specs.World.{Leads, octets_to}
use Rattle.beep_pair.specs.Drains.{Pieces}
use Rattle.beep_pair.proofs.pair.Pair.get_all.Given as goal

abbrev pub invariant-loop : goal.invariant-loop
invariant-loop l = record {
  led : Leads (Pieces l.at l.piece) l.fn.self l.self;
  ready : AreReady l.self;
}

abbrev pub decreases-loop : goal.decreases-loop
decreases-loop l = length (octets_to l.at l.self)
