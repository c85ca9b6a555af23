-- A sender whose session is over without a broken rule has sent all.
use Rattle.std.proofs.Common.{◌≡◌, [], refl, rules, true}
use Rattle.beep_steps.specs.beep_peer.specs.Peering.{is_over}
use Rattle.beep_steps.specs.Logs.{moments}
use Rattle.beep_sender.specs.Sender.{plan_of, progress_of}
use Rattle.beep_sender.specs.SenderTurning.{ends_asking}
use Rattle.beep_steps.proofs.EndScripts.{goes-script}
use Rattle.beep_steps.proofs.EndSends.{over-sent}
use Rattle.beep_steps.proofs.OnLemmas.{over-on, shows-release}
use Rattle.beep_steps.specs.beep_link.specs.declared.ended.Ended.{Ended}
use Rattle.beep_sender.proofs.RefusedLemmas.{sent-unrefused}
use Rattle.beep_sender.proofs.sender.SenderEnd.over.Goals as goal

pub returns : goal.returns
returns c = record {
  over = λ log text s.
      let one = c.args.self.now in
      let over : is_over one.session.peer ≡ true = search rules in (
        record {
          tells = record {
            shows = shows-release one.session (moments log) s.0.0.sends.on (over-on one.session (moments log) s.0.0.sends.on over);
            sent = λ is. over-sent (plan_of one) (progress_of one) one.session (moments log) s.0.0.sends refl over (sent-unrefused one log Ended.Released tt s);
            unrefused = sent-unrefused one log Ended.Released tt s;
          };
          script = goes-script (plan_of one) (progress_of one) one.session [] (moments log) s.0.0;
        },
        ends_asking (plan_of one) one.session log [] s.0.1,
        λ short. tt,
      );
  unfailed = λ is. cc;
  going = tt;
}
