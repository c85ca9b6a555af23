-- A session that begins has its greeting alone on channel zero, as its script says.
use Rattle.std.proofs.Common.{◌≡◌, ◌∙◌, refl, sym, ap, subst, ℕ, ◌+◌, if◌then◌else◌, List, [], ◌∷◌, length, map, Some, append-nil, arith, inl}
use Rattle.std.specs.Prelude.{IfSome}
use Rattle.beep_session.specs.beep_frame.specs.declared.kind.Kind.{Kind}
use Rattle.beep_session.specs.beep_frame.specs.Frame.{is_msg}
use Rattle.beep_session.specs.beep_history.specs.declared.journal.Side.{Side}
use Rattle.beep_session.specs.beep_history.specs.Journal.{Item}
use Rattle.beep_session.specs.beep_history.specs.Marks.{Mark, end, marks}
use Rattle.beep_session.specs.beep_mgmt.specs.Message.{message_said, message_text}
use Rattle.beep_session.specs.beep_journal.specs.Zero.{zero_history}
use Rattle.beep_session.specs.beep_exchange.specs.Given.{ends_reply}
use Rattle.beep_session.specs.beep_outbox.specs.Queue.{message_marks}
use Rattle.beep_session.specs.beep_channel.specs.Stands.{ends_of}
use Rattle.beep_session.specs.beep_spoken.specs.Spoken.{AreSpoken}
use Rattle.beep_session.specs.beep_spoken.proofs.SpokenLemmas.{spoken-more}
use Rattle.beep_session.specs.beep_management.specs.Managed.{Prepared, first_of}
use Rattle.beep_session.specs.beep_answering.specs.Sent.{greeting_of}
use Rattle.beep_session.specs.beep_peer.specs.Calls.{Begins}
use Rattle.beep_session.specs.beep_peer.specs.Waiting.{HasCome}
use Rattle.beep_session.specs.Session.{Held}
use Rattle.beep_desk.specs.beep_talk.specs.Plan.{PlainPlan}
use Rattle.beep_desk.specs.beep_script.specs.Desk.{desk}
use Rattle.beep_desk.specs.Desks.{IsDeskOf}
use Rattle.beep_desk.specs.Listed.{AskInTurn, spoken_of}
use Rattle.beep_steps.specs.Desking.{AllSaidZero, DesksOn, IsPlanOf, Meets}
use Rattle.beep_steps.specs.Logs.{StandsOn}
use Rattle.beep_steps.proofs.DeskMet.{meets-none}
use Rattle.beep_steps.proofs.DeskSaid.{said-empty}
use Rattle.beep_steps.proofs.SpeakLives.{ends-octets}

nil-of : {X : Type 0} (xs : List X) → length xs ≡ 0 → xs ≡ []
nil-of [] e = refl
nil-of (x ∷ xs) e = absurd (omega (arith, e))

-- no answer waits where one was given and nothing has come
none-waits : (given : List Mark) (answers : List Prepared) (n : ℕ) → n ≡ 0 → ends_of ends_reply given ≡ 1 → ends_of ends_reply given + length answers ≡ n + 1 → answers ≡ []
none-waits given answers n none one e = nil-of answers (omega (arith, none, one, e))

module _ (plan : PlainPlan) (session : Held) (size : ℕ) (greeting : List ℕ) (b : Begins size greeting session.peer) (text : greeting ≡ message_text (greeting_of plan.offers))
    (read : message_said (message_text (greeting_of plan.offers)) ≡ Some (greeting_of plan.offers)) (on : StandsOn session []) (empty : on.journal ≡ []) (is : on.given ≡ b.given) where
  given-is : on.given 0 ≡ message_marks b.message
  given-is = ap (λ f. f 0) is ∙ b.given_is

  one-reply : ends_of ends_reply (on.given 0) ≡ 1
  one-reply =
      ap (ends_of ends_reply) given-is ∙ ends-octets ends_reply b.message.tag b.message.octets (end b.message.tag ∷ [])
      ∙ ap (λ (k : Kind). if ends_reply k then 0 + 1 else 0) b.is_rpy

  none : session.peer.management.answers ≡ []
  none =
      let owed = on.stands.stands.holds.manages.is.owed in
      none-waits (on.given 0) session.peer.management.answers (ends_of is_msg (marks Side.Received (zero_history on.journal)))
      (ap (λ (j : List Item). ends_of is_msg (marks Side.Received (zero_history j))) empty) one-reply owed

  spoken : AreSpoken (map spoken_of (desk plan []).listed) (on.given 0)
  spoken =
      subst (AreSpoken (map spoken_of (desk plan []).listed)) (sym given-is)
      (spoken-more [] [] b.message (record { kind = Kind.Rpy; form = greeting_of plan.offers }) (record { octets = refl; kinds = refl; whole = refl; said = tt }) (b.is_text ∙ text) read b.is_rpy)

  begun : IsDeskOf plan [] (on.given 0) session.peer.management.answers
  begun = subst (IsDeskOf plan [] (on.given 0)) (sym none) (record {
    given_is = spoken;
    whole = record { messages = b.message ∷ []; marks_are = given-is ∙ sym (append-nil (message_marks b.message)) };
    prepared_is = tt;
    plain = tt;
    waits = tt;
    met = inl refl;
  })

  pub begins-desk : IsPlanOf plan session → DesksOn plan session []
  begins-desk p = record {
    plan_is = p;
    on = on;
    meets = subst Meets (sym empty) meets-none;
    listed = subst (AllSaidZero plan) (sym empty) (said-empty plan);
    placed = subst (AskInTurn plan) (sym empty) tt;
    desk = subst (λ (j : List Item). IsDeskOf plan j (on.given 0) session.peer.management.answers) (sym empty) begun;
    stuck = subst (λ (answers : List Prepared). IfSome (first_of answers) (λ first. HasCome first.waits session.peer.lives session.peer.management → ⊥)) (sym none) tt;
  }
