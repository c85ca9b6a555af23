use Rattle.beep_pair.specs.Sessions.{AreReady}
use Rattle.beep_pair.specs.World.{Leads}
use Rattle.beep_pair.proofs.RunLemmas.{SoFar}
use Rattle.beep_pair.proofs.pair.Pair.run.Given as goal

abbrev pub invariant-loop-i : goal.invariant-loop-i
invariant-loop-i l = record {
  led : Leads (SoFar l.schedule l.i l.fn.out.octets l.out.octets) l.fn.self l.self;
  ready : AreReady l.self;
}
