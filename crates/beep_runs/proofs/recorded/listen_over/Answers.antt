-- The links come back from the recorder as it leaves them.
use Rattle.std.proofs.Common.{rules}
use Rattle.beep_runs.specs.Runs.{ListensOver, seen_by}
use Rattle.beep_runs.proofs.RunLemmas.{moved}
use Rattle.beep_runs.proofs.recorded.listen_over.Goals as goal

pub returns : goal.returns
returns g c =
    let W = g.W.Wires in
    let seen = seen_by W.state W.counts W.asked W.lent in
    moved (λ a b. ListensOver c.args.settings.now c.listen_through-answer.result (seen a) (seen b) c.args.out.now c.listen_through-answer.new.out) _ _ _ c.listen_through-answer.new.recorder.wires.now
    c.known-recorder.ensures.same (search rules) c.listen_through-answer.ensures.listens
