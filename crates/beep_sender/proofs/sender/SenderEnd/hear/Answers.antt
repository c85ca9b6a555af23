-- All octets that were read are used, unless the session stops; nothing is written to the output.
use Rattle.std.proofs.Common.{◌∷◌, refl}
use Rattle.beep_steps.specs.beep_talk.specs.declared.plan.Command.{Command}
use Rattle.beep_steps.specs.beep_wires.specs.Log.{read}
use Rattle.beep_steps.specs.beep_link.proofs.StandLemmas.{text-none}
use Rattle.beep_steps.specs.Logs.{moments}
use Rattle.beep_steps.specs.Turning.{stop_idle}
use Rattle.beep_steps.proofs.DeskSaid.{said-comes}
use Rattle.beep_steps.proofs.EndScripts.{comes-script}
use Rattle.beep_steps.proofs.EndSends.{tells-stop}
use Rattle.beep_steps.proofs.ResultLemmas.{err-both, ok-and}
use Rattle.beep_sender.specs.Sender.{plan_of, progress_of}
use Rattle.beep_steps.specs.beep_link.specs.declared.ended.Ended.{Ended}
use Rattle.beep_sender.proofs.RefusedLemmas.{as-closing, sent-unrefused}
use Rattle.beep_sender.proofs.sender.SenderEnd.hear.Goals as goal

pub returns-clause-heard : goal.returns-clause-heard
returns-clause-heard g c log text s =
    let one = c.args.self.now in
    let new = c.hear_all.new.self in
    let all = moments (read c.args.bytes.now ∷ log) in
    ok-and c.hear_all.result _ _ _
    (λ p u. text-none (g.O.Sink.state c.args._output.now).written _ (p, as-closing Command.Send all new.is_closing one.is_closing c.hear_all.ensures.closing u))
    (c.hear_all.ensures.asking (moments log) s.0) (c.hear_all.ensures.unrefused (moments log) s.0.0.sends s.1)

pub returns-clause-stopped : goal.returns-clause-stopped
returns-clause-stopped g c log text s =
    let one = c.args.self.now in
    let all = moments (read c.args.bytes.now ∷ log) in
    err-both c.hear_all.result _ _ _
    (λ stop h r. text-none (g.O.Sink.state c.args._output.now).written _ (
      record {
        tells = tells-stop (plan_of one) (progress_of one) one.session log c.args.bytes.now stop refl s.0.0.sends (sent-unrefused one log Ended.Released tt s) h r;
        script = comes-script (plan_of one) (progress_of one) one.session c.args.bytes.now (moments log) s.0.0;
      },
      said-comes (plan_of one) one.session c.args.bytes.now (moments log) s.0.1.0.on s.0.1.0.listed,
      λ short. stop_idle (plan_of one) stop all,
    ))
    (c.hear_all.ensures.stopped (moments log) s.0.0.sends) (c.hear_all.ensures.refuses (moments log) s.0.0.sends s.1)
