-- A session in which nothing has happened is that of a sender that has said nothing.
use Rattle.std.proofs.Common.{◌≡◌, ◌∙◌, ℕ, List, [], map, false, refl, sym, ap, subst}
use Rattle.beep_steps.specs.beep_decide.specs.Decide.{PlainOffer}
use Rattle.beep_steps.specs.beep_decide.specs.Plain.{plain_offer}
use Rattle.beep_steps.specs.beep_mgmt.specs.Message.{message_text}
use Rattle.beep_steps.specs.beep_answering.specs.Sent.{greeting_of}
use Rattle.beep_steps.specs.beep_peer.specs.Calls.{Begins}
use Rattle.beep_steps.specs.beep_journal.specs.declared.role.Role.{Role}
use Rattle.beep_steps.specs.beep_standing.specs.Standing.{no_marks}
use Rattle.beep_steps.specs.beep_session.specs.declared.limits.Limits.{Limits}
use Rattle.beep_steps.specs.beep_session.specs.Lawfully.{IsLawfulSession, terms_of}
use Rattle.beep_steps.specs.beep_session.specs.Session.{Held}
use Rattle.beep_steps.specs.beep_talk.specs.declared.plan.Command.{Command}
use Rattle.beep_steps.specs.beep_talk.specs.Plan.{PlainPlan}
use Rattle.beep_steps.specs.Logs.{terms_by}
use Rattle.beep_steps.specs.Sending.{Progress, SendsOn, IsSender, at_first, sender_plan}
use Rattle.beep_steps.specs.Scripting.{ScriptedOn}
use Rattle.beep_steps.proofs.EndScripts.{begins-scripting}
use Rattle.beep_steps.proofs.EndSends.{begins-sending}
use Rattle.beep_steps.specs.Desking.{IsGreetingRead, IsPlanOf}
use Rattle.beep_steps.proofs.DeskBegins.{begins-desk}
use Rattle.beep_steps.proofs.OnLemmas.{begins-on, ok-map}
use Rattle.beep_steps.proofs.SettledLemmas.{first-unrefused}
use Rattle.beep_sender.specs.Asking.{AsksOn}
use Rattle.beep_sender.specs.Sender.{plan_by, plan_of, progress_of, AsksBy, SendsBy, StandsBy}
use Rattle.beep_sender.proofs.RefusedLemmas.{as-closing}
use Rattle.beep_sender.proofs.SenderLemmas.{ok-all, ok-both, terms-plan}
use Rattle.beep_sender.proofs.WholeLemmas.{begins-taken}
use Rattle.beep_sender.proofs.sending.begin.Goals as goal

pub returns-clause-sends : goal.returns-clause-sends
returns-clause-sends c =
    let e = c.in_ok-session.ensures in
    let session = c.in_ok-session.session in
    let plan = plan_by session c.args.settings.now.raw_uri c.args.lines.now in
    let who : IsSender plan session = record { command = refl; role = e.terms.0; texts = c.what_a_sender_asks_is_read.ensures c.args.settings.now.raw_uri c.requires.fit.uri } in
    let s : SendsOn plan at_first session [] = begins-sending plan session e.stands.given no_marks e.stands.message who e.stands.is_rpy e.stands.given_is (e.lawful e.stands) in
    ok-all c.new-2.result (λ sender. sender.session ≡ session) (λ sender. plan_of sender ≡ plan) (λ sender. progress_of sender ≡ at_first) (λ sender. SendsBy sender [])
    (λ sender same is fresh.
    subst (λ (x : Held). SendsOn (plan_of sender) (progress_of sender) x []) (sym same)
    (subst (λ (q : Progress). SendsOn (plan_of sender) q session []) (sym fresh) (subst (λ (x : PlainPlan). SendsOn x at_first session []) (sym is) s)))
    c.new-2.ensures.session c.new-2.ensures.plan c.new-2.ensures.fresh

-- its script lists its greeting alone, and nothing has come
begins : (session : Held) (size : ℕ) (greeting : List ℕ) (begun : Begins size greeting session.peer) (plan : PlainPlan) → plan.offers ≡ [] → greeting ≡ message_text (greeting_of [])
    → IsGreetingRead [] → IsLawfulSession session [] [] [] begun.given no_marks → IsPlanOf plan session → AsksOn plan session []
begins session size greeting begun plan none text read lawful is = (
  begins-desk plan session size greeting begun (text ∙ ap (λ (os : List PlainOffer). message_text (greeting_of os)) (sym none)) (subst IsGreetingRead (sym none) read)
      (begins-on session begun.given no_marks lawful) refl refl is,
  begins-taken session begun.given lawful,
)

pub returns-clause-stands : goal.returns-clause-stands
returns-clause-stands c =
    let e = c.in_ok-session.ensures in
    let session = c.in_ok-session.session in
    let plan = plan_by session c.args.settings.now.raw_uri c.args.lines.now in
    let who : IsSender plan session = record { command = refl; role = e.terms.0; texts = c.what_a_sender_asks_is_read.ensures c.args.settings.now.raw_uri c.requires.fit.uri } in
    let s : ScriptedOn plan at_first session [] = begins-scripting plan session e.stands.given no_marks e.stands.message who e.stands.is_rpy e.stands.given_is (e.lawful e.stands) in
    let none = e.terms.1 ∙ ap (map plain_offer) c.new-offers.ensures in
    let a : AsksOn plan session [] = begins session _ _ e.stands plan refl (ap (λ os. message_text (greeting_of (map plain_offer os))) c.new-offers.ensures) c.what_a_sender_greets_with_is_read.ensures
    (e.lawful e.stands) (record { role = refl; offers = sym none; none = refl }) in
    ok-both c.new-2.result (λ sender. AsksBy sender []) (λ sender. sender.is_closing ≡ false) (λ sender. StandsBy sender [])
    (λ sender asks closing. (asks, as-closing Command.Send [] sender.is_closing false closing (first-unrefused Command.Send)))
    (ok-all c.new-2.result (λ sender. sender.session ≡ session) (λ sender. plan_of sender ≡ plan) (λ sender. progress_of sender ≡ at_first) (λ sender. AsksBy sender [])
    (λ sender same is fresh. (
      subst (λ (x : Held). ScriptedOn (plan_of sender) (progress_of sender) x []) (sym same)
          (subst (λ (q : Progress). ScriptedOn (plan_of sender) q session []) (sym fresh) (subst (λ (x : PlainPlan). ScriptedOn x at_first session []) (sym is) s)),
      subst (λ (x : Held). AsksOn (plan_of sender) x []) (sym same) (subst (λ (x : PlainPlan). AsksOn x session []) (sym is) a),
    ))
    c.new-2.ensures.session c.new-2.ensures.plan c.new-2.ensures.fresh)
    c.new-2.ensures.closing

pub returns-clause-plan : goal.returns-clause-plan
returns-clause-plan c =
    let e = c.in_ok-session.ensures in
    let session = c.in_ok-session.session in
    let settings = c.args.settings.now in
    let terms : terms_of session ≡ terms_by Role.Initiator settings =
    ap (λ (r : Role). record { role = r; window = session.limits.window; piece = session.limits.piece }) e.terms.0
    ∙ ap (λ (l : Limits). record { role = Role.Initiator; window = l.window; piece = l.piece }) (e.terms.2 ∙ c.limits_of.ensures) in
    ok-map c.new-2.result (λ sender. plan_of sender ≡ plan_by session settings.raw_uri c.args.lines.now) (λ sender. plan_of sender ≡ sender_plan settings c.args.lines.now)
    (λ sender is. is ∙ terms-plan settings.raw_uri c.args.lines.now (terms_of session) (terms_by Role.Initiator settings) terms)
    c.new-2.ensures.plan
