-- The octets that came of a frame are those that the log shows.
use Rattle.std.proofs.Common.{[]}
use Rattle.beep_steps.specs.Logs.{moments}
use Rattle.beep_steps.proofs.OnLemmas.{shows-cut}
use Rattle.beep_steps.specs.beep_link.specs.declared.ended.Ended.{Ended}
use Rattle.beep_sender.proofs.RefusedLemmas.{sent-unrefused}
use Rattle.beep_steps.proofs.EndScripts.{goes-script}
use Rattle.beep_sender.specs.Sender.{plan_of, progress_of}
use Rattle.beep_sender.specs.SenderTurning.{ends_asking}
use Rattle.beep_sender.proofs.sender.SenderEnd.left.Goals as goal

pub returns : goal.returns
returns c = record {
  cut = λ log text going s. (
    record {
      tells = record {
        shows = shows-cut c.args.self.now.session (moments log) s.0.0.sends.on c.left.result c.left.ensures.stands going;
        sent = λ is. absurd (cc is);
        unrefused = sent-unrefused c.args.self.now log (Ended.Cut c.left.result) tt s;
      };
      script = goes-script (plan_of c.args.self.now) (progress_of c.args.self.now) c.args.self.now.session [] (moments log) s.0.0;
    },
    ends_asking (plan_of c.args.self.now) c.args.self.now.session log [] s.0.1,
    λ short. tt,
  );
}
