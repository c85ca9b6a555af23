-- The octets that came of a frame are those that the log shows, and the lines are written.
use Rattle.std.proofs.Common.{[]}
use Rattle.beep_steps.specs.Logs.{moments}
use Rattle.beep_steps.proofs.OnLemmas.{shows-cut}
use Rattle.beep_steps.proofs.ServeLemmas.{shows-served}
use Rattle.beep_listener.specs.Listening.{plan_of}
use Rattle.beep_listener.proofs.HearLemmas.{dry-all}
use Rattle.beep_steps.specs.beep_link.specs.declared.ended.Ended.{Ended}
use Rattle.beep_listener.specs.Turning.{goes_refused}
use Rattle.beep_steps.proofs.DeskSaid.{said-goes}
use Rattle.beep_steps.proofs.SpeakShown.{shows-goes}
use Rattle.beep_listener.specs.Speaking.{notes_of}
use Rattle.beep_listener.proofs.listener.ListenerEnd.left.Goals as goal

pub returns : goal.returns
returns c = record {
  cut = λ log text going s.
      let a = c.args.self.now in
      let plan = plan_of a.session in (
        (
          record {
            shows = shows-cut a.session (moments log) s.0.0.listens.on c.left.result c.left.ensures.stands going;
            lines = dry-all a.session a.bodies a.lines.octets.octets text (moments log) s.0.0;
          },
          shows-served plan a.session [] (moments log) s.0.1,
          goes_refused a.session a.bodies a.lines.octets.octets log (Ended.Cut c.left.result) tt s.0.2,
        ),
        (shows-goes plan (notes_of a) a.session [] (moments log) s.1.0, said-goes plan a.session [] (moments log) s.1.1.on s.1.1.listed),
        tt,
        tt,
      );
}
