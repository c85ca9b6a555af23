-- A session that is over, and broke no rule, is released, and its lines are written.
use Rattle.std.proofs.Common.{◌≡◌, [], rules, true}
use Rattle.beep_steps.specs.beep_peer.specs.Peering.{is_over}
use Rattle.beep_steps.specs.Logs.{moments}
use Rattle.beep_steps.proofs.OnLemmas.{over-on, shows-release}
use Rattle.beep_steps.proofs.ServeLemmas.{shows-served}
use Rattle.beep_listener.specs.Listening.{plan_of}
use Rattle.beep_listener.proofs.HearLemmas.{dry-all}
use Rattle.beep_steps.specs.beep_link.specs.declared.ended.Ended.{Ended}
use Rattle.beep_listener.specs.Turning.{goes_refused}
use Rattle.beep_steps.proofs.DeskSaid.{said-goes}
use Rattle.beep_steps.proofs.SpeakShown.{shows-goes}
use Rattle.beep_listener.specs.Speaking.{notes_of}
use Rattle.beep_listener.proofs.listener.ListenerEnd.over.Goals as goal

pub returns : goal.returns
returns c = record {
  over = λ log text s.
      let a = c.args.self.now in
      let over : is_over a.session.peer ≡ true = search rules in
      let plan = plan_of a.session in (
        (
          record {
            shows = shows-release a.session (moments log) s.0.0.listens.on (over-on a.session (moments log) s.0.0.listens.on over);
            lines = dry-all a.session a.bodies a.lines.octets.octets text (moments log) s.0.0;
          },
          shows-served plan a.session [] (moments log) s.0.1,
          goes_refused a.session a.bodies a.lines.octets.octets log Ended.Released tt s.0.2,
        ),
        (shows-goes plan (notes_of a) a.session [] (moments log) s.1.0, said-goes plan a.session [] (moments log) s.1.1.on s.1.1.listed),
        tt,
        tt,
      );
  unfailed = λ is. cc;
  going = tt;
}
