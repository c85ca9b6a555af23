-- What was written is on the output, and what stops the session shows on the log.
use Rattle.std.proofs.Common.{[], ◌∷◌, ◌++◌, refl, subst, sym}
use Rattle.beep_steps.specs.beep_wires.specs.Log.{read}
use Rattle.beep_steps.specs.beep_journal.specs.Log.{got_all}
use Rattle.beep_steps.specs.beep_session.specs.Lawfully.{terms_of}
use Rattle.beep_steps.specs.Logs.{moments, SaysNothing, StopsOn}
use Rattle.beep_steps.specs.Refusing.{RefusesOn}
use Rattle.beep_steps.specs.beep_link.specs.declared.ended.Ended.{Ended}
use Rattle.beep_steps.specs.beep_link.specs.declared.ended.Stop.{Stop}
use Rattle.beep_listener.specs.Turning.{goes_refused}
use Rattle.beep_steps.specs.beep_link.proofs.StandLemmas.{grown-more, text-map}
use Rattle.beep_steps.specs.Serving.{ServesOn}
use Rattle.beep_steps.proofs.OnLemmas.{nothing-stops, ok-then, stopped-on}
use Rattle.beep_steps.proofs.RefusesLemmas.{stop-refuses}
use Rattle.beep_steps.proofs.ServeLemmas.{shows-served, shows-serving}
use Rattle.beep_listener.specs.Listening.{Listens, ListensDry, plan_of}
use Rattle.beep_listener.proofs.DeniedLemmas.{denied-lines, denied-writes}
use Rattle.beep_listener.proofs.HearLemmas.{dry-all, failed-tells, flushed-listens, heard-or, stop-tells, text-then}
use Rattle.beep_listener.proofs.ServingLemmas.{kept-read}
use Rattle.beep_steps.proofs.DeskSaid.{said-comes}
use Rattle.beep_steps.proofs.ResultLemmas.{err-both, ok-and}
use Rattle.beep_steps.proofs.SpeakShown.{shows-comes}
use Rattle.beep_listener.specs.Speaking.{notes_of, SpeaksAll}
use Rattle.beep_steps.specs.Turning.{stop_idle}
use Rattle.beep_listener.proofs.listener.ListenerEnd.hear.Goals as goal

pub returns-in-Ok-clause-heard : goal.returns-in-Ok-clause-heard
returns-in-Ok-clause-heard g c log text s =
    let state = g.O.Sink.state in
    let h = c.hear_all-heard.new.self in
    let before = (state c.args.output.now).written in
    let mid = (state c.hear_all-heard.new.output).written in
    let after = (state c.flush.new.output).written in
    let all = moments (read c.args.bytes.now ∷ log) in
    ok-and c.hear_all-heard.result _ _ _
    (λ w v. text-map before after _ _ (λ more d. (d, subst (λ p. SpeaksAll p (notes_of h) h.session all) (sym c.hear_all-heard.ensures.plan) v)) w)
    (ok-and c.hear_all-heard.result _ _ _
    (λ w u. text-map before after _ _ (λ more (d : ListensDry h.session h.bodies c.flush.new.self.octets.octets all (text ++ more) × ServesOn (plan_of h.session) h.session all). (d.0, d.1, u)) w)
    (ok-and c.hear_all-heard.result _ _ _
    (λ w v. text-map before after _ _ (λ more d. (d, subst (λ p. ServesOn p h.session all) (sym c.hear_all-heard.ensures.plan) v)) w)
    (ok-then c.hear_all-heard.result _ _
    (text-then (λ t. Listens h.session h.bodies h.lines.octets.octets all t) (λ t. ListensDry h.session h.bodies c.flush.new.self.octets.octets all t) text before mid after
    (λ more l. flushed-listens h.session h.bodies h.lines.octets.octets c.flush.new.self.octets.octets (text ++ more) all mid after l c.in-Ok.ensures.ok c.flush.ensures.empty))
    (c.hear_all-heard.ensures.heard (moments log) text s.0.0.listens))
    (c.hear_all-heard.ensures.serving (plan_of c.args.self.now.session) (moments log) s.0.1))
    (c.hear_all-heard.ensures.unrefused (moments log) s.0.2))
    (c.hear_all-heard.ensures.speaking (plan_of c.args.self.now.session) (moments log) text s.0.0.listens s.0.1 s.1)

pub returns-in-Ok-clause-stopped : goal.returns-in-Ok-clause-stopped
returns-in-Ok-clause-stopped g c log text s =
    let state = g.O.Sink.state in
    let a = c.args.self.now in
    let h = c.hear_all-heard.new.self in
    let before = (state c.args.output.now).written in
    let mid = (state c.hear_all-heard.new.output).written in
    let after = (state c.flush.new.output).written in
    let all = moments (read c.args.bytes.now ∷ log) in
    err-both c.hear_all-heard.result _ _ _ (λ stop w r. text-map before after _ _
    (λ more t. (
      (t, shows-serving (plan_of a.session) a.session c.args.bytes.now (moments log) s.0.1, stop-refuses (terms_of a.session) stop log c.args.bytes.now (goes_refused a.session a.bodies a.lines.octets.octets log Ended.Released tt s.0.2) r),
      (shows-comes (plan_of a.session) (notes_of a) a.session c.args.bytes.now (moments log) s.1.0, said-comes (plan_of a.session) a.session c.args.bytes.now (moments log) s.1.1.on s.1.1.listed),
      stop_idle (plan_of a.session) stop all,
      kept-read (plan_of a.session) stop c.args.bytes.now log text more s.0.0.listens.on.logged.lawful (shows-served (plan_of a.session) a.session [] (moments log) s.0.1)
          (dry-all a.session a.bodies a.lines.octets.octets text (moments log) s.0.0),
    )) w)
    (err-both c.hear_all-heard.result _ _ _
    (λ stop (p : StopsOn (terms_of a.session) stop (got_all c.args.bytes.now (moments log)) × RefusesOn (terms_of a.session) stop (got_all c.args.bytes.now (moments log))) w. stop-tells (plan_of a.session) text before mid after all h.session h.bodies h.lines.octets.octets c.flush.new.self.octets.octets c.hear_all-heard.ensures.plan
    (read c.args.bytes.now ∷ log) refl c.in-Ok.ensures.ok c.flush.ensures.empty stop
    (λ t. denied-writes (plan_of a.session) (terms_of a.session) stop (got_all c.args.bytes.now (moments log)) t (denied-lines (plan_of a.session) a.session (moments log) s.0.1 s.1.1 s.0.2 c.args.bytes.now) p.1)
    (stopped-on a.session log s.0.0.listens.on c.args.bytes.now stop p.0 p.1) w)
    (err-both c.hear_all-heard.result _ _ _ (λ stop p r. (p, r)) (c.hear_all-heard.ensures.stopped (moments log) text s.0.0.listens) (c.hear_all-heard.ensures.refuses (moments log) s.0.2))
    (c.hear_all-heard.ensures.wrote (moments log) text s.0.0.listens))
    (c.hear_all-heard.ensures.refuses (moments log) s.0.2)

pub returns-in-Err-clause-stopped : goal.returns-in-Err-clause-stopped
returns-in-Err-clause-stopped g c log text s =
    let state = g.O.Sink.state in
    let a = c.args.self.now in
    let h = c.hear_all-heard.new.self in
    let before = (state c.args.output.now).written in
    let mid = (state c.hear_all-heard.new.output).written in
    let after = (state c.flush.new.output).written in
    let octets = c.args.bytes.now in
    let all = moments (read octets ∷ log) in
    let stop = c.in-Err.stop in
    let shows = stopped-on a.session log s.0.0.listens.on octets stop (nothing-stops (terms_of a.session) stop (got_all octets (moments log)) (subst SaysNothing (sym c.in-Err.ensures.stopped) tt))
    (subst (λ (x : Stop). RefusesOn (terms_of a.session) x (got_all octets (moments log))) (sym c.in-Err.ensures.stopped) tt) in
    let w = heard-or (plan_of a.session) text before mid after all h.session h.bodies h.lines.octets.octets c.flush.new.self.octets.octets c.hear_all-heard.ensures.plan c.hear_all-heard.result
    (c.hear_all-heard.ensures.heard (moments log) text s.0.0.listens) (c.hear_all-heard.ensures.wrote (moments log) text s.0.0.listens) in
    text-map before after _ _ (λ more t. (
      (
        t,
        shows-serving (plan_of a.session) a.session octets (moments log) s.0.1,
        stop-refuses (terms_of a.session) stop log octets (goes_refused a.session a.bodies a.lines.octets.octets log Ended.Released tt s.0.2) (subst (λ (x : Stop). RefusesOn (terms_of a.session) x (got_all octets (moments log))) (sym c.in-Err.ensures.stopped) tt),
      ),
      (shows-comes (plan_of a.session) (notes_of a) a.session octets (moments log) s.1.0, said-comes (plan_of a.session) a.session octets (moments log) s.1.1.on s.1.1.listed),
      stop_idle (plan_of a.session) stop all,
      kept-read (plan_of a.session) stop octets log text more s.0.0.listens.on.logged.lawful (shows-served (plan_of a.session) a.session [] (moments log) s.0.1)
          (dry-all a.session a.bodies a.lines.octets.octets text (moments log) s.0.0),
    ))
    (failed-tells (plan_of a.session) text before mid after all h.session h.bodies h.lines.octets.octets c.flush.new.self.octets.octets c.hear_all-heard.ensures.plan
    (read octets ∷ log) refl c.in-Err.ensures.err stop c.in-Err.ensures.stopped shows w.0 w.1)

pub returns-in-Ok-clause-grew : goal.returns-in-Ok-clause-grew
returns-in-Ok-clause-grew g c = grown-more _ (g.O.Sink.state c.hear_all-heard.new.output).written _ c.hear_all-heard.ensures.grew c.flush.ensures.grew

pub returns-in-Err-clause-grew : goal.returns-in-Err-clause-grew
returns-in-Err-clause-grew g c = grown-more _ (g.O.Sink.state c.hear_all-heard.new.output).written _ c.hear_all-heard.ensures.grew c.flush.ensures.grew
