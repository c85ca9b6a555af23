use Rattle.std.proofs.Common.{◌≢◌, ◌≤◌, ℕ, sym, subst, rules}
use Rattle.beep_runs.specs.beep_link.specs.declared.ended.Ended.{Ended}
use Rattle.beep_runs.specs.beep_record.specs.declared.limits.TheConstants.{MAX_STATUS}
use Rattle.beep_cmd.specs.Recording.{TellsWhole}
use Rattle.beep_cmd.proofs.RecordedLemmas.{status_within, tells_record}
use Rattle.beep_cmd.proofs.recorded.tell_record.Goals as goal

pub returns-in-Released : goal.returns-in-Released
returns-in-Released g c = λ role link recorded.
    let O = g.O.Sink in
    let some : c.args.ended ≢ Ended.NoMemory = search rules in
    let within : c.status_of.result ≤ MAX_STATUS = subst (λ (n : ℕ). n ≤ MAX_STATUS) (sym c.status_of.ensures) (status_within c.args.ended) in
    tells_record role link c.args.ended c.tell_whole.result (O.state c.args.output.now) (O.state c.tell_whole.new.output) some
    (subst (λ (n : ℕ). TellsWhole role link n c.tell_whole.result (O.state c.args.output.now) (O.state c.tell_whole.new.output)) c.status_of.ensures (c.tell_whole.ensures role link within (recorded some)))
