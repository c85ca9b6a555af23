-- The links come back from the recorder as it leaves them.
use Rattle.std.proofs.Common.{rules}
use Rattle.beep_runs.specs.Runs.{seen_by, SendsOver}
use Rattle.beep_runs.proofs.RunLemmas.{moved}
use Rattle.beep_runs.proofs.recorded.send_over.Goals as goal

pub returns : goal.returns
returns g c =
    let W = g.W.Wires in
    let seen = seen_by W.state W.counts W.asked W.lent in
    moved (λ a b. SendsOver c.args.settings.now c.args.lines.now c.send_through-answer.result (seen a) (seen b) c.args.out.now c.send_through-answer.new.out) _ _ _ c.send_through-answer.new.recorder.wires.now
    c.known-recorder.ensures.same (search rules) c.send_through-answer.ensures.sends
