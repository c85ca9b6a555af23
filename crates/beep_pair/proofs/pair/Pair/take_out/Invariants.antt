use Rattle.std.proofs.Common.{◌≡◌, ◌+◌, length}
use Rattle.beep_two_sessions.specs.beep_inbox.specs.Runs.{octets_of}
use Rattle.beep_two_sessions.specs.beep_lives.specs.Lives.{live_at}
use Rattle.beep_two_sessions.specs.beep_giving.specs.Looks.{inbox_of}
use Rattle.beep_schedule.specs.declared.limits.TheConstants.{MAX_COUNT}
use Rattle.beep_pair.specs.Sessions.{AreReady}
use Rattle.beep_pair.specs.World.{Leads, held_at}
use Rattle.beep_pair.specs.Draining.{PartsOf}
use Rattle.beep_pair.proofs.pair.Pair.take_out.Given as goal

abbrev pub invariant-loop-at : goal.invariant-loop-at
invariant-loop-at l = record {
  led : Leads (PartsOf l.at l.n) l.fn.self l.self;
  ready : AreReady l.self;
  room : length l.buf ≡ MAX_COUNT;
}

abbrev pub decreases-loop-at : goal.decreases-loop-at
decreases-loop-at l = octets_of (inbox_of (live_at l.n (held_at l.at l.self).peer.lives)) + length (inbox_of (live_at l.n (held_at l.at l.self).peer.lives))
