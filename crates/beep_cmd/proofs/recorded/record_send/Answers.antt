use Rattle.std.proofs.Common.{◌≡◌, [], refl, rules}
use Rattle.beep_runs.specs.beep_journal.specs.declared.role.Role.{Role}
use Rattle.beep_runs.specs.beep_link.specs.Causes.{Seen}
use Rattle.beep_runs.specs.beep_link.specs.declared.ended.Ended.{Ended}
use Rattle.beep_cmd.specs.Ends.{asking, SendCause, SendsLines, seen_of, session}
use Rattle.beep_cmd.proofs.RecordedLemmas.{ends_recorded, ends_unlinked, send_caused, send_sends, record_is, send_asks, unlinked_sends}
use Rattle.beep_cmd.proofs.recorded.record_send.Goals as goal

pub returns-in-Ok-clause-recorded : goal.returns-in-Ok-clause-recorded
returns-in-Ok-clause-recorded g c short =
    let W = g.W.Wires in
    let O = g.O.Sink in
    let settings = c.args.settings.now in
    let before : Seen = seen_of (W.state c.args.wires.now) (W.counts c.args.wires.now) (W.asked c.args.wires.now) (W.lent c.args.wires.now) in
    let after : Seen = seen_of (W.state c.send_recorded.new.wires) (W.counts c.send_recorded.new.wires) (W.asked c.send_recorded.new.wires) (W.lent c.send_recorded.new.wires) in
    let cause = c.in-Ok.ended in
    let r = c.in-Ok.ensures.ran in
    let empty : c.new-out.result.octets ≡ [] = search rules in
    ends_recorded (λ cause. SendCause cause settings before after × SendsLines cause settings c.args.lines.now before after) Role.Initiator before after c.tell_record.result (O.state c.args.output.now) (O.state c.tell_record.new.output) cause c.in-Ok.ensures.unwritten (send_caused settings cause before after r, send_sends settings c.args.lines.now cause before after r short c.in-Ok.ensures.sent) r.given
    (c.tell_record.ensures Role.Initiator (after.state before.counts.given) (record_is Role.Initiator cause before after c.new-out.result.octets c.send_recorded.new.out.octets empty c.in-Ok.ensures.recorded))

pub returns-clause-recorded : goal.returns-clause-recorded
returns-clause-recorded g c short =
    let W = g.W.Wires in
    let O = g.O.Sink in
    let settings = c.args.settings.now in
    let before : Seen = seen_of (W.state c.args.wires.now) (W.counts c.args.wires.now) (W.asked c.args.wires.now) (W.lent c.args.wires.now) in
    let after : Seen = seen_of (W.state c.send_recorded.new.wires) (W.counts c.send_recorded.new.wires) (W.asked c.send_recorded.new.wires) (W.lent c.send_recorded.new.wires) in
    ends_unlinked (λ cause. SendCause cause settings before after × SendsLines cause settings c.args.lines.now before after) Role.Initiator before after c.finish.result (O.state c.args.output.now) (O.state c.finish.new.output) c.in-Err.ended before.counts.dials after.counts.dials c.in-Err.ensures.failed (λ rose. (asking refl (rose, c.in-Err.ensures.failed.given), unlinked_sends settings c.args.lines.now Ended.WireFault (λ e. cc) before after c.in-Err.ensures.failed.given))
    (session tt (λ e. absurd cc), unlinked_sends settings c.args.lines.now Ended.NoMemory (λ e. cc) before after c.in-Err.ensures.failed.given)
    c.finish.ensures.written c.finish.ensures.none

pub returns-in-Ok-clause-asks : goal.returns-in-Ok-clause-asks
returns-in-Ok-clause-asks g c =
    let W = g.W.Wires in
    let before : Seen = seen_of (W.state c.args.wires.now) (W.counts c.args.wires.now) (W.asked c.args.wires.now) (W.lent c.args.wires.now) in
    let after : Seen = seen_of (W.state c.send_recorded.new.wires) (W.counts c.send_recorded.new.wires) (W.asked c.send_recorded.new.wires) (W.lent c.send_recorded.new.wires) in
    let a = c.in-Ok.ensures.asks in send_asks c.args.settings.now before after a.0 a.1 a.2
