use Rattle.std.proofs.Common.{inl, refl, ap}
use Rattle.beep_cmd.specs.Ends.{ended_status, ended_line, over, IsDialOf}
use Rattle.beep_cmd.specs.Recorded.{lined}
use Rattle.beep_show.specs.Show.{run_of}
use Rattle.beep_cmd.proofs.EndsLemmas.{sent, unsent}
use Rattle.beep_cmd.proofs.RecordedLemmas.{sent_recorded}
use Rattle.beep_cmd.proofs.ServingLemmas.{asks_none}
use Rattle.beep_cmd.proofs.ShortLemmas.{lines-short}
use Rattle.beep_cmd.proofs.send.send.Goals as goal

pub returns-in_default-clause-asks : goal.returns-in_default-clause-asks
returns-in_default-clause-asks g c = asks_none (IsDialOf c.args.settings.now _) 1 (g.W.Wires.asked c.args.wires.now)

pub returns-clause-asks : goal.returns-clause-asks
returns-clause-asks g c = asks_none (IsDialOf c.args.settings.now _) 1 (g.W.Wires.asked c.args.wires.now)

pub returns-in-Ok-read_lines-clause-sent : goal.returns-in-Ok-read_lines-clause-sent
returns-in-Ok-read_lines-clause-sent g c =
    let gives = c.in-Ok-read_lines.ensures.ok in
    let cause = c.send_lines-ended.result in
    sent c.args.settings.now _ _ (run_of (g.I.Source.state c.args.input.now) (g.I.Source.state c.read_lines.new.input) (g.O.Sink.state c.args.output.now) (g.O.Sink.state c.finish.new.output)) gives.octets gives.consumed (ended_status cause) (ended_line cause) c.finish.result
    (over gives.ended c.in-Ok-read_lines.lines gives.are_lines cause c.send_lines-ended.ensures.unwritten (λ short. ap ended_line short) c.send_lines-ended.ensures.caused (c.send_lines-ended.ensures.sent (lines-short c.in-Ok-read_lines.lines gives.octets gives.are_lines)) refl (lined (inl c.if-settings.false) refl)) c.finish.ensures.written

pub returns-then-settings-clause-sent : goal.returns-then-settings-clause-sent
returns-then-settings-clause-sent g c =
    let gives = c.in-Ok-read_lines.ensures.ok in
    sent_recorded c.args.settings.now _ _ c.record_send.result (run_of (g.I.Source.state c.args.input.now) (g.I.Source.state c.read_lines.new.input) (g.O.Sink.state c.args.output.now) (g.O.Sink.state c.record_send.new.output)) gives.octets gives.consumed c.if-settings.true gives.ended c.in-Ok-read_lines.lines gives.are_lines (c.record_send.ensures.recorded (lines-short c.in-Ok-read_lines.lines gives.octets gives.are_lines))

pub returns-clause-sent : goal.returns-clause-sent
returns-clause-sent g c =
    unsent c.args.settings.now _ (run_of (g.I.Source.state c.args.input.now) (g.I.Source.state c.read_lines.new.input) (g.O.Sink.state c.args.output.now) (g.O.Sink.state c.finish_unlisted.new.output)) c.in-Err.why c.finish_unlisted.result c.in-Err.ensures.err c.finish_unlisted.ensures.written c.finish_unlisted.ensures.none
