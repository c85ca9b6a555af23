-- What was written through the sink that counts was written to its output.
use Rattle.std.proofs.Common.{◌≡◌, List, ℕ, ap, sym}
use Rattle.beep_runs.specs.beep_listener.specs.Listening.{is_whole, listener_plan, AreLinesOf, HasLinesOf, KeepsWhere}
use Rattle.beep_runs.specs.beep_steps.specs.Logs.{moments}
use Rattle.beep_runs.specs.beep_wires.specs.Log.{Entry}
use Rattle.beep_cmd.proofs.ListenLemmas.{text_between}
use Rattle.beep_cmd.proofs.counting.listen_counted.Goals as goal

pub returns-clause-lines : goal.returns-clause-lines
returns-clause-lines g c =
    let state = g.O.Sink.state in
    let cause = c.listen_end-ended.result in
    text_between (λ (log : List Entry) (text : List ℕ). AreLinesOf (listener_plan c.args.settings.now) (is_whole cause) (moments log) text) (g.W.Wires.state c.listen_end-ended.new.wires c.args.link).log
    (state c.known-counted.result.output.now).written (state c.args.sink.output.now).written (state c.listen_end-ended.new.output.output.now).written (state c.plain.result.output.now).written
    (ap (λ o. (state o).written) c.known-counted.ensures.same) (ap (λ o. (state o).written) (sym c.plain.ensures.same)) c.listen_end-ended.ensures.lines

pub returns-clause-flushed : goal.returns-clause-flushed
returns-clause-flushed g c =
    let state = g.O.Sink.state in
    let cause = c.listen_end-ended.result in
    text_between (λ (log : List Entry) (text : List ℕ). KeepsWhere (HasLinesOf (listener_plan c.args.settings.now) text) cause log) (g.W.Wires.state c.listen_end-ended.new.wires c.args.link).log
    (state c.known-counted.result.output.now).written (state c.args.sink.output.now).written (state c.listen_end-ended.new.output.output.now).written (state c.plain.result.output.now).written
    (ap (λ o. (state o).written) c.known-counted.ensures.same) (ap (λ o. (state o).written) (sym c.plain.ensures.same)) c.listen_end-ended.ensures.flushed
