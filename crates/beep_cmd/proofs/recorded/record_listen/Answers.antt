use Rattle.std.proofs.Common.{◌≡◌, [], refl, rules}
use Rattle.beep_runs.specs.beep_journal.specs.declared.role.Role.{Role}
use Rattle.beep_runs.specs.beep_link.specs.Causes.{Seen}
use Rattle.beep_runs.specs.beep_link.specs.declared.ended.Ended.{Ended}
use Rattle.beep_cmd.specs.Ends.{asking, ListenCause, seen_of, session}
use Rattle.beep_cmd.proofs.RecordedLemmas.{ends_recorded, ends_unlinked, listen_caused, listen_keeps, record_is, unlinked_keeps}
use Rattle.beep_cmd.specs.Recording.{KeepsListening}
use Rattle.beep_cmd.proofs.recorded.record_listen.Goals as goal

pub returns-in-Ok-clause-recorded : goal.returns-in-Ok-clause-recorded
returns-in-Ok-clause-recorded g c =
    let W = g.W.Wires in
    let O = g.O.Sink in
    let settings = c.args.settings.now in
    let before : Seen = seen_of (W.state c.args.wires.now) (W.counts c.args.wires.now) (W.asked c.args.wires.now) (W.lent c.args.wires.now) in
    let after : Seen = seen_of (W.state c.listen_recorded.new.wires) (W.counts c.listen_recorded.new.wires) (W.asked c.listen_recorded.new.wires) (W.lent c.listen_recorded.new.wires) in
    let cause = c.in-Ok.ended in
    let r = c.in-Ok.ensures.ran in
    let empty : c.new-out.result.octets ≡ [] = search rules in
    ends_recorded (λ cause. ListenCause cause settings before after × KeepsListening cause settings before after) Role.Listener before after c.tell_record.result (O.state c.args.output.now) (O.state c.tell_record.new.output) cause c.in-Ok.ensures.unwritten (listen_caused settings cause before after c.requires.one r, listen_keeps settings cause before after r c.in-Ok.ensures.listened) r.given
    (c.tell_record.ensures Role.Listener (after.state before.counts.given) (record_is Role.Listener cause before after c.new-out.result.octets c.listen_recorded.new.out.octets empty c.in-Ok.ensures.recorded))

pub returns-clause-recorded : goal.returns-clause-recorded
returns-clause-recorded g c =
    let W = g.W.Wires in
    let O = g.O.Sink in
    let settings = c.args.settings.now in
    let before : Seen = seen_of (W.state c.args.wires.now) (W.counts c.args.wires.now) (W.asked c.args.wires.now) (W.lent c.args.wires.now) in
    let after : Seen = seen_of (W.state c.listen_recorded.new.wires) (W.counts c.listen_recorded.new.wires) (W.asked c.listen_recorded.new.wires) (W.lent c.listen_recorded.new.wires) in
    ends_unlinked (λ cause. ListenCause cause settings before after × KeepsListening cause settings before after) Role.Listener before after c.finish.result (O.state c.args.output.now) (O.state c.finish.new.output) c.in-Err.ended before.counts.accepts after.counts.accepts c.in-Err.ensures.failed (λ rose. (asking refl rose, unlinked_keeps settings Ended.WireFault before after c.in-Err.ensures.failed.given))
    (session tt (λ e. absurd cc), unlinked_keeps settings Ended.NoMemory before after c.in-Err.ensures.failed.given)
    c.finish.ensures.written c.finish.ensures.none
