use Rattle.std.proofs.Common.{◌≡◌, true, false, refl, sym, ◌∙◌}
use Rattle.std.proofs.KnownBytes.{Appends-nil}
use Rattle.beep_runs.specs.beep_link.specs.declared.ended.Ended.{Ended}
use Rattle.beep_runs.specs.beep_link.specs.Causes.{Seen}
use Rattle.beep_cmd.specs.Ends.{seen_of, session}
use Rattle.beep_cmd.specs.Recording.{record_starved}
use Rattle.beep_cmd.proofs.EndsLemmas.{listened}
use Rattle.beep_cmd.proofs.ListenLemmas.{last_line, none_written}
use Rattle.beep_cmd.proofs.RecordedLemmas.{listened_recorded, unlinked_keeps}
use Rattle.beep_cmd.proofs.listen.listen.Goals as goal

pub returns-clause-listened : goal.returns-clause-listened
returns-clause-listened g c = λ source.
    let O = g.O.Sink in
    listened c.args.settings.now _ _ source (O.state c.args.output.now) (O.state c.listen_all-ended.new.output) (O.state c.finish.new.output) c.finish.result c.listen_all-ended.ensures.kept c.listen_all-ended.ensures.grew c.listen_all-ended.result c.listen_all-ended.ensures.caused c.listen_all-ended.ensures.written c.finish.ensures.written c.finish.ensures.none

pub returns-then-settings-clause-listened : goal.returns-then-settings-clause-listened
returns-then-settings-clause-listened g c = λ source.
    let O = g.O.Sink in
    listened_recorded c.args.settings.now _ _ c.record_listen.result source (O.state c.args.output.now) (O.state c.record_listen.new.output) c.if-settings.true c.record_listen.ensures.recorded

pub returns-clause-lines : goal.returns-clause-lines
returns-clause-lines g c = λ recording.
    let W = g.W.Wires in
    let O = g.O.Sink in
    last_line c.args.settings.now _ _ c.listen_all-ended.result c.finish.result (O.state c.args.output.now) (O.state c.listen_all-ended.new.output) (O.state c.finish.new.output) c.listen_all-ended.ensures.kept c.listen_all-ended.ensures.lines c.finish.ensures.written

pub returns-then-settings-clause-lines : goal.returns-then-settings-clause-lines
returns-then-settings-clause-lines g c = λ recording. absurd (let h : true ≡ false = sym c.if-settings.true ∙ recording in cc)

pub returns-in_default-clause-lines : goal.returns-in_default-clause-lines
returns-in_default-clause-lines g c = λ recording. none_written c.args.settings.now _ (g.O.Sink.state c.args.output.now)

pub returns-in_default-clause-recorded : goal.returns-in_default-clause-recorded
returns-in_default-clause-recorded g c =
    let W = g.W.Wires in
    let seen : Seen = seen_of (W.state c.args.wires.now) (W.counts c.args.wires.now) (W.asked c.args.wires.now) (W.lent c.args.wires.now) in
    λ recording. record_starved Ended.NoMemory (session tt (λ e. absurd cc), unlinked_keeps c.args.settings.now Ended.NoMemory seen seen refl) refl (Appends-nil (g.O.Sink.state c.args.output.now).written)
