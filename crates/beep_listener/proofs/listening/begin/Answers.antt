-- A session in which nothing has happened stands for an empty log.
use Rattle.std.proofs.Common.{◌∙◌, ap, refl, subst, sym, [], map}
use Rattle.beep_steps.specs.beep_decide.specs.Plain.{plain_offer}
use Rattle.beep_steps.specs.beep_standing.specs.Standing.{no_marks}
use Rattle.beep_steps.specs.Serving.{ServesOn}
use Rattle.beep_steps.proofs.ServeCalls.{begins-listener}
use Rattle.beep_listener.proofs.ServingLemmas.{listener-of}
use Rattle.beep_steps.proofs.OnLemmas.{ok-map}
use Rattle.beep_listener.specs.Listening.{UnrefusedOn, plan_of}
use Rattle.beep_listener.proofs.ListenLemmas.{begins-listening, begun-plan, dry-as, terms-begun}
use Rattle.beep_listener.proofs.RefusingLemmas.{begins-unrefused}
use Rattle.beep_steps.specs.beep_mgmt.specs.Message.{message_text}
use Rattle.beep_steps.specs.beep_answering.specs.Decided.{NoneTunes}
use Rattle.beep_steps.specs.beep_answering.specs.Sent.{greeting_of}
use Rattle.beep_steps.specs.Desking.{DesksOn, IsGreetingRead}
use Rattle.beep_steps.specs.Speaking.{SpeaksOn, no_notes}
use Rattle.beep_steps.proofs.DeskBegins.{begins-desk}
use Rattle.beep_steps.proofs.SpeakCalls.{begins-speaking}
use Rattle.beep_steps.proofs.OnLemmas.{begins-on}
use Rattle.beep_listener.specs.Speaking.{notes_of, SpeaksAll}
use Rattle.beep_listener.proofs.SpeakingLemmas.{ok-four}
use Rattle.beep_listener.proofs.listening.begin.Goals as goal

pub returns-clause-stands : goal.returns-clause-stands
returns-clause-stands c =
    let session = c.in_ok-session.session in
    let e = c.in_ok-session.ensures in
    let s = begins-listening session e.stands.given (e.lawful e.stands) in
    let one = e.terms.1 ∙ c.in_ok-offers.ensures.value in
    let serves = begins-listener (plan_of session) session _ (map plain_offer c.in_ok-offers.offers) e.stands _ (listener-of session _ one) (e.lawful e.stands) in
    let on = begins-on session e.stands.given no_marks (e.lawful e.stands) in
    let speaking : SpeaksOn (plan_of session) no_notes session [] = begins-speaking (plan_of session) session _ _ e.stands no_marks refl on refl refl in
    let read = subst IsGreetingRead (sym one) (c.what_a_listener_greets_with_is_read.ensures c.args.settings.now.raw_uri c.requires.fit.uri) in
    let desk : DesksOn (plan_of session) session [] = begins-desk (plan_of session) session _ _ e.stands (ap (λ os. message_text (greeting_of os)) (sym e.terms.1)) read on refl refl
    (record { role = refl; offers = refl; none = subst NoneTunes (sym one) refl }) in
    ok-four c.new-2.result _ _ _ _ _ (λ listener same b l n. (
      (
        dry-as session listener.session listener.bodies listener.lines.octets.octets s same b l,
        subst (λ h. ServesOn (plan_of h) h []) (sym same) serves,
        subst (λ h. UnrefusedOn h []) (sym same) (begins-unrefused session s.listens.on e.terms.0),
      ),
      subst (λ h. SpeaksAll (plan_of h) (notes_of listener) h []) (sym same) (subst (λ x. SpeaksAll (plan_of session) x session []) (sym n) (speaking, desk)),
    ))
    c.new-2.ensures.session c.new-2.ensures.bodies c.new-2.ensures.lines c.new-2.ensures.notes

pub returns-clause-plan : goal.returns-clause-plan
returns-clause-plan c =
    let session = c.in_ok-session.session in
    let e = c.in_ok-session.ensures in
    let settings = c.args.settings.now in
    let p = begun-plan session settings (terms-begun session settings e.terms.0 (e.terms.2 ∙ c.limits_of.ensures)) (e.terms.1 ∙ c.in_ok-offers.ensures.value) in
    ok-map c.new-2.result _ _ (λ listener same. ap plan_of same ∙ p) c.new-2.ensures.session
