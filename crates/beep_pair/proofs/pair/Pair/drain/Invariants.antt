use Rattle.std.proofs.Common.{◌≡◌, length}
use Rattle.beep_schedule.specs.declared.limits.TheConstants.{MAX_COUNT}
use Rattle.beep_pair.specs.Sessions.{AreReady}
use Rattle.beep_pair.specs.World.{Leads}
use Rattle.beep_pair.proofs.DrainLemmas.{SoFar}
use Rattle.beep_pair.proofs.pair.Pair.drain.Given as goal

abbrev pub invariant-loop-round : goal.invariant-loop-round
invariant-loop-round l = record {
  led : Leads (SoFar l.max l.piece l._round l.fn.line.octets l.line.octets) l.fn.self l.self;
  ready : AreReady l.self;
  room : length l.buf ≡ MAX_COUNT;
}
