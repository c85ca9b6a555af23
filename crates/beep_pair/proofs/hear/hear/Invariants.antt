use Rattle.std.proofs.Common.{◌≡◌, ◌≤◌, ◌+◌, ◌-◌, false, true, length}
use Rattle.beep_two_sessions.specs.beep_peer.specs.Peering.{is_over}
use Rattle.beep_report.specs.beep_tally.specs.Accounts.{one_if}
use Rattle.beep_pair.specs.Sessions.{IsReady, Hears}
use Rattle.beep_pair.proofs.hear.hear.Given as goal

abbrev pub invariant-loop-goes : goal.invariant-loop-goes
invariant-loop-goes l = record {
  within : l.used ≤ length l.octets;
  hears : Hears l.at l.octets l.fn.session l.fn.accounts l.used l.goes l.session l.accounts;
  ready : IsReady l.session;
  role : l.session.role ≡ l.fn.session.role;
  progress : l.used ≡ 0 → l.goes ≡ false → is_over l.session.peer ≡ true;
}

abbrev pub decreases-loop-goes : goal.decreases-loop-goes
decreases-loop-goes l = (length l.octets - l.used) + one_if l.goes
