-- As many links were accepted as there were turns, and what ended the first session that wasn't
-- released shows in its link.
use Rattle.std.proofs.Common.{◌≡◌, ◌+◌, ◌≤◌, false, List}
use Rattle.beep_cmd.specs.Ends.{AreShut, ends_run, IsAcceptOf, open_of, ReadsWithin, SessionCause, seen_of, WritesLawfully}
use Rattle.beep_runs.specs.beep_link.specs.Causes.{Grows}
use Rattle.beep_runs.specs.beep_journal.specs.declared.role.Role.{Role}
use Rattle.beep_cmd.specs.Listening.{run_cause, Session}
use Rattle.beep_cmd.specs.Serving.{AsksGave, GoesOn, WritesSessions}
use Rattle.beep_cmd.proofs.listen.listen_all.Given as goal

abbrev pub invariant-loop : goal.invariant-loop
invariant-loop g l =
    let W = g.W.Wires in
    let before = seen_of (W.state l.fn.wires) (W.counts l.fn.wires) (W.asked l.fn.wires) (W.lent l.fn.wires) in
    let now = seen_of (W.state l.wires) (W.counts l.wires) (W.asked l.wires) (W.lent l.wires) in
    record {
      goes_on : GoesOn before now;
      given : now.counts.given ≡ before.counts.given + l.counter;
      cause : SessionCause l.first Role.Listener l.settings before now;
      lawful : WritesLawfully Role.Listener l.settings before now;
      shut : AreShut before now;
      reads : ReadsWithin l.settings before now;
      goes : ends_run l.first ≡ false;
      lines : WritesSessions l.settings before now (λ (sessions : List Session). l.first ≡ run_cause sessions) (g.O.Sink.state l.fn.output).written (g.O.Sink.state l.output).written;
      asks : AsksGave (IsAcceptOf l.settings (open_of before)) l.counter before.asked now.asked;
      grew : Grows (g.O.Sink.state l.fn.output).written (g.O.Sink.state l.output).written;
      kept : (g.O.Sink.state l.fn.output).faults ≤ (g.O.Sink.state l.output).faults;
    }
