use Rattle.std.proofs.Common.{List, ℕ, subst}
use Rattle.beep_runs.specs.beep_record.specs.Verdicts.{ReplaysText}
use Rattle.beep_cmd.proofs.JudgeLemmas.{text_reported}
use Rattle.beep_cmd.proofs.replay.tell_record.Goals as goal

pub returns-in-Ok : goal.returns-in-Ok
returns-in-Ok c =
    let replays = subst (λ (x : List ℕ). ReplaysText x c.in-Ok.verdict c.in-Ok.report.octets) c.as_slice.ensures.value c.in-Ok.ensures.value in
    text_reported c.tell_verdict.result c.args.octets.items c.in-Ok.report.octets c.tell_verdict.new.out.octets c.in-Ok.verdict replays c.tell_verdict.ensures.status c.tell_verdict.ensures.appended
