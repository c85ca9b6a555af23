-- What the session of the link that was accepted wrote.
use Rattle.std.proofs.Common.{rules, ◌≡◌, ◌+◌, ◌∙◌, List, Option, ℕ, ap, sym}
use Rattle.beep_runs.specs.beep_wires.specs.Links.{Counts}
use Rattle.beep_runs.specs.beep_link.specs.Causes.{Seen}
use Rattle.beep_cmd.specs.Ends.{seen_of}
use Rattle.beep_cmd.proofs.ListenLemmas.{session_between, session_lines}
use Rattle.beep_cmd.proofs.ServingLemmas.{has_cause}
use Rattle.beep_cmd.proofs.listen.listen_once.Goals as goal

pub returns-clause-lines : goal.returns-clause-lines
returns-clause-lines g c =
    let W = g.W.Wires in
    let O = g.O.Sink in
    let before : Seen = seen_of (W.state c.args.wires.now) (W.counts c.args.wires.now) (W.asked c.args.wires.now) (W.lent c.args.wires.now) in
    let used : Seen = seen_of (W.state c.listen_counted-ended.new.wires) (W.counts c.listen_counted-ended.new.wires) (W.asked c.listen_counted-ended.new.wires) (W.lent c.listen_counted-ended.new.wires) in
    let after : Seen = seen_of (W.state c.shut.new.self) (W.counts c.shut.new.self) (W.asked c.shut.new.self) (W.lent c.shut.new.self) in
    let i = c.in-Ok.ensures in
    let e = c.listen_counted-ended.ensures in
    let s = c.shut.ensures in
    let one : after.counts.given ≡ before.counts.given + 1 = ap (λ (k : Counts). k.given) s.same_counts ∙ e.keeps.given ∙ i.given in
    let old : Option (List ℕ) = (O.state c.new-sink.result.output.now).written in
    let new : Option (List ℕ) = (O.state c.listen_counted-ended.result.1.output.now).written in
    let last : c.output-1.given.0 ≡ c.listen_counted-ended.result.1.output.now = search rules in
    session_between c.args.settings.now c.listen_counted-ended.result.0 before after old (O.state c.args.output.now).written new (O.state c.output-1.given.0).written
    (ap (λ o. (O.state o).written) c.new-sink.ensures.same) (ap (λ o. (O.state o).written) (sym last))
    (
    session_lines c.args.settings.now c.listen_counted-ended.result.0 before used after c.in-Ok.link i.number one s.shut old new e.lines e.flushed e.shown e.unrefused e.waits e.bounded e.rested e.each
    (has_cause c.args.settings.now _ (used.state c.in-Ok.link) _ used.counts.quiets i.fresh (e.exact i.fresh.no_reads) c.listen_counted-ended.result.0 e.caused) e.grew
    )
