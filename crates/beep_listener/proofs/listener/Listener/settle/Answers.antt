-- A message that is settled may end lives, and what stops there brings no line.
use Rattle.std.proofs.Common.{◌∙◌, ap, false, subst, sym}
use Rattle.beep_steps.specs.beep_session.specs.Lawfully.{terms_of}
use Rattle.beep_steps.specs.beep_talk.specs.declared.plan.Command.{Command}
use Rattle.beep_steps.specs.Logs.{command_of}
use Rattle.beep_steps.specs.Serving.{ServesOn}
use Rattle.beep_steps.specs.Refusing.{Unrefused}
use Rattle.beep_steps.proofs.OnLemmas.{err-map, ok-then}
use Rattle.beep_listener.specs.Listening.{plan_of, UnrefusedOn}
use Rattle.beep_listener.proofs.HearLemmas.{does-stops, listens-same, ok-of, settle-stops}
use Rattle.beep_listener.proofs.ListenLemmas.{same-plan}
use Rattle.beep_listener.proofs.PartLemmas.{settled-listens}
use Rattle.beep_listener.specs.Speaking.{notes_of}
use Rattle.beep_listener.proofs.SpeakingLemmas.{ok-settled}
use Rattle.beep_listener.proofs.RefusingLemmas.{goes-unrefused}
use Rattle.beep_steps.proofs.SettledLemmas.{settled-on, settled-stops}
use Rattle.beep_listener.proofs.listener.Listener.settle.Goals as goal

pub returns-in-Err-clause-wrote : goal.returns-in-Err-clause-wrote
returns-in-Err-clause-wrote c log octets text w =
    let a = c.args.self.now in
    settle-stops a.session a.bodies a.lines.octets.octets text log w c.in-Err.stop octets (c.in-Err.ensures.ends log octets w.on)

pub returns-clause-settled : goal.returns-clause-settled
returns-clause-settled c log text w =
    let a = c.args.self.now in
    let n = c.settle_message.new.session in
    let b = c.prune.new.bodies in
    let d = c.does.new.self in
    let z = settled-listens a.session n a.bodies b a.lines.octets.octets text log w (c.in-Ok.ensures.done log w.on)
    (same-plan a.session n c.settle_message.ensures.terms c.settle_message.ensures.offers) c.prune.ensures in
    ok-of c.does.result _ (listens-same n d.session b d.bodies a.lines.octets.octets d.lines.octets.octets text log c.does.ensures.session c.does.ensures.bodies
    (ap (λ x. x.octets.octets) c.does.ensures.lines) z)

pub returns-clause-wrote : goal.returns-clause-wrote
returns-clause-wrote c log octets text w =
    let a = c.args.self.now in
    let n = c.settle_message.new.session in
    let b = c.prune.new.bodies in
    let d = c.does.new.self in
    let same = same-plan a.session n c.settle_message.ensures.terms c.settle_message.ensures.offers in
    let z = settled-listens a.session n a.bodies b a.lines.octets.octets text log w (c.in-Ok.ensures.done log w.on) same c.prune.ensures in
    let l = listens-same n d.session b d.bodies a.lines.octets.octets d.lines.octets.octets text log c.does.ensures.session c.does.ensures.bodies
    (ap (λ x. x.octets.octets) c.does.ensures.lines) z in
    err-map c.does.result _ _ (λ stop s. does-stops d.session d.bodies d.lines.octets.octets text log l (plan_of a.session) (ap plan_of c.does.ensures.session ∙ same) stop octets s) c.does.ensures.stopped

pub returns-clause-serving : goal.returns-clause-serving
returns-clause-serving c plan log s =
    ok-of c.does.result _ (subst (λ h. ServesOn plan h log) (sym c.does.ensures.session) (c.in-Ok.ensures.serving plan log s))

pub returns-clause-speaking : goal.returns-clause-speaking
returns-clause-speaking c plan log serving taken s =
    let a = c.args.self.now in
    let d = c.does.new.self in
    ok-settled plan (notes_of a) (notes_of d) c.in-Ok.settled c.settle_message.new.session d.session log c.does.result c.does.ensures.session
    (c.in-Ok.ensures.speaking plan (notes_of a) log serving s.0, c.in-Ok.ensures.desk plan (notes_of a) log serving s.0 s.1 taken) (ap (λ x. x.items) c.does.ensures.spoken) c.does.ensures.leaving

pub returns-clause-unrefused : goal.returns-clause-unrefused
returns-clause-unrefused c log w =
    let a = c.args.self.now in
    let n = c.settle_message.new.session in
    let k = c.in-Ok.ensures.refuses Command.Listen false log w.on w.unrefused in
    ok-then c.does.result _ _ (λ none. subst (λ h. UnrefusedOn h log) (sym c.does.ensures.session)
    (goes-unrefused a.session n log false (c.in-Ok.ensures.done log w.on).on c.settle_message.ensures.terms w.role (settled-on Command.Listen false c.in-Ok.settled log k none)))
    c.does.ensures.unrefused

pub returns-clause-refuses : goal.returns-clause-refuses
returns-clause-refuses c log octets w =
    let a = c.args.self.now in
    let k = c.in-Ok.ensures.refuses Command.Listen false log w.on w.unrefused in
    err-map c.does.result _ _ (λ stop r. settled-stops Command.Listen false c.in-Ok.settled log k (terms_of a.session) (ap command_of w.role) octets stop r) c.does.ensures.refuses

pub returns-in-Err-clause-refuses : goal.returns-in-Err-clause-refuses
returns-in-Err-clause-refuses c log octets w =
    c.in-Err.ensures.unrefusing false log octets w.on (subst (λ (command : Command). Unrefused command false w.on.journal) (sym (ap command_of w.role)) w.unrefused)
