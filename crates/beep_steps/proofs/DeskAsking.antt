-- Once all that came is taken, a sender's desk is what its script says: where nothing is asked, and where what is asked is given.
use Rattle.std.proofs.Common.{◌≡◌, ◌∙◌, refl, sym, ap, subst, ℕ, zero, suc, ◌+◌, ◌≤◌, true, List, [], ◌∷◌, ◌++◌, length, map, take, Option, None, Some, append-nil, arith}
use Rattle.std.specs.Prelude.{is_some}
use Rattle.beep_session.specs.beep_frame.specs.declared.kind.Kind.{Kind}
use Rattle.beep_session.specs.beep_history.specs.declared.journal.Side.{Side}
use Rattle.beep_session.specs.beep_history.specs.Journal.{Item}
use Rattle.beep_session.specs.beep_history.specs.Marks.{Mark, marks, mark_modulo_2_64}
use Rattle.beep_session.specs.beep_mgmt.specs.Form.{Form}
use Rattle.beep_session.specs.beep_mgmt.specs.Message.{message_said, message_text}
use Rattle.beep_session.specs.beep_journal.specs.Log.{Moment}
use Rattle.beep_session.specs.beep_journal.specs.Zero.{zero_history}
use Rattle.beep_session.specs.beep_channel.specs.Held.{Live}
use Rattle.beep_session.specs.beep_lives.specs.Lives.{live_at}
use Rattle.beep_session.specs.beep_outbox.specs.Queue.{message_marks, marks_of as unsent_marks}
use Rattle.beep_session.specs.beep_standing.specs.Standing.{Marks, with_marks}
use Rattle.beep_session.specs.beep_standing.proofs.SendLemmas.{with-same}
use Rattle.beep_session.specs.beep_upright.specs.Upright.{IsUpright}
use Rattle.beep_session.specs.beep_peer.specs.Peering.{IsPeer}
use Rattle.beep_session.specs.Acts.{AsksZero}
use Rattle.beep_session.specs.Channels.{IsOfPeer}
use Rattle.beep_session.specs.Lawfully.{terms_of, KeepsUpright}
use Rattle.beep_session.specs.Session.{Held}
use Rattle.beep_desk.specs.beep_talk.specs.AtZero.{ZeroMessage, answer_message, zero_message}
use Rattle.beep_desk.specs.beep_talk.specs.Plan.{PlainPlan}
use Rattle.beep_desk.specs.beep_script.specs.Desk.{asks, desk}
use Rattle.beep_desk.specs.beep_script.specs.Requested.{requests_from, sender_texts}
use Rattle.beep_desk.specs.Desks.{AreGivenFor, IsDeskOf, StandsIn}
use Rattle.beep_desk.specs.Listed.{ArePlacedFrom, AskInTurn, asked_positions}
use Rattle.beep_desk.specs.Waiting.{SaysAll}
use Rattle.beep_desk.proofs.AskLemmas.{asked-given}
use Rattle.beep_desk.proofs.ClearLemmas.{all-done}
use Rattle.beep_desk.proofs.StepLemmas.{asked-replies, asks-placed, asks-step, desk-stuck}
use Rattle.beep_steps.specs.Desking.{DesksOn, DesksWithin}
use Rattle.beep_steps.specs.Logs.{AreTaken, StandsOn}
use Rattle.beep_steps.specs.Scripting.{ScriptedOn}
use Rattle.beep_steps.specs.Sending.{Progress}
use Rattle.beep_steps.proofs.CallLemmas.{on-so}
use Rattle.beep_steps.proofs.DeskCalls.{ends-desk, holds-in, one-journal, plan-on}
use Rattle.beep_steps.proofs.SendDone.{sends-on}

-- ---- how many requests are listed

some-at : (o : Option Live) → is_some o ≡ true → (c : Live) × (o ≡ Some c)
some-at None e = absurd cc
some-at (Some c) e = (c, refl)

-- what was given on channel zero is one list of marks
pub zero-given : (session : Held) (log : List Moment) (a b : StandsOn session log) → a.given 0 ≡ b.given 0
zero-given session log a b =
    let c = some-at (live_at 0 session.peer.lives) (sym (a.stands.stands.holds.live.there 0)) in
    (a.stands.stands.holds.live.zero c.0 c.1).all_given
    ∙ ap (λ (j : List Item). map mark_modulo_2_64 (marks Side.Sent (zero_history j)) ++ unsent_marks c.0.held.queue) (one-journal session log a b)
    ∙ sym (b.stands.stands.holds.live.zero c.0 c.1).all_given

of-three : {X : Type 0} (n : ℕ) (a b c : X) → n ≤ 3 → length (take n (a ∷ b ∷ c ∷ [])) ≡ n
of-three zero a b c few = refl
of-three (suc zero) a b c few = refl
of-three (suc (suc zero)) a b c few = refl
of-three (suc (suc (suc zero))) a b c few = refl
of-three (suc (suc (suc (suc n)))) a b c few = absurd (omega (arith, few))

module _ (plan : PlainPlan) (p : Progress) (old : Held) (log : List Moment) (d : DesksWithin plan old log) (x : ScriptedOn plan p old log) where
  abbrev ours : List ZeroMessage
  ours = (desk plan d.before).listed

  -- as many as were given
  pub asked-texts : length (asked_positions ours) ≡ length (take p.asked (sender_texts plan.raw_uri))
  asked-texts =
      let gone = d.desk.said in
      ap length (sym (asked-replies ours gone)) ∙ asked-given (ours ++ map answer_message gone) (d.on.given 0) d.desk.given_is
      ∙ ap (λ (ms : List Mark). length (requests_from [] ms)) (zero-given old log d.on x.sends.on) ∙ ap length x.sends.sends.asked

  -- and so as many as the sender asked
  pub asked-count : p.asked ≤ 3 → length (asked_positions ours) ≡ p.asked
  asked-count few = asked-texts ∙ of-three p.asked _ _ _ few

  -- ---- where nothing is asked

  pub quiet-asking : AreTaken old → asks plan.command plan d.item d.before ≡ [] → DesksOn plan old log
  quiet-asking taken quiet = ends-desk plan old log d quiet taken (sends-on plan p old log x d.on)

  -- ---- where one request is

  module _ (taken : AreTaken old) (q : Progress) (new : Held) (y : ScriptedOn plan q new log) (same : IsOfPeer old new) (upright : KeepsUpright old new)
      (kept : new.peer.management.answers ≡ old.peer.management.answers) (text : List ℕ)
      (f : (fed rest : List ℕ) (journal : List Item) (given taken : Marks) → IsPeer old.limits.window fed rest journal given taken old.peer
      → AsksZero old.limits.window fed rest journal given taken text new.peer)
      (position : ℕ) (form : Form) (text_is : text ≡ message_text form) (said : message_said (message_text form) ≡ Some form) (next : position ≡ p.asked + 1) (few : p.asked ≤ 3)
      (asked : asks plan.command plan d.item d.before ≡ zero_message Kind.Msg position form ∷ []) where
    abbrev on : StandsOn old log
    on = d.on

    abbrev a : AsksZero old.limits.window on.fed on.rest on.journal on.given on.taken text new.peer
    a = f on.fed on.rest on.journal on.given on.taken on.stands.stands

    abbrev now_given : Marks
    now_given = with_marks 0 (on.given 0 ++ message_marks a.ask) on.given

    abbrev now_on : StandsOn new log
    now_on =
        on-so old new same on.fed on.rest on.journal now_given on.taken log
        (record { stands = a.stands; upright = upright on.fed on.rest on.journal on.given on.taken on.stands.stands on.stands.upright; lawful = on.stands.lawful }) on.framed on.logged

    abbrev now : List Item
    now = d.item ∷ d.before

    in-turn : AskInTurn plan now
    in-turn =
        asks-placed plan d.item d.before d.placed
        (subst (λ (l : List ZeroMessage). ArePlacedFrom (1 + length (asked_positions ours)) (asked_positions l)) (sym asked)
        (let count = asked-count few in omega (arith, next, count), tt))

    given-for : AreGivenFor (a.ask ∷ []) (asks plan.command plan d.item d.before)
    given-for = subst (AreGivenFor (a.ask ∷ [])) (sym asked) (a.is_msg, a.is_text ∙ text_is, said, tt)

    says-now : SaysAll plan on.journal now_given
    says-now = sends-on plan q new log y now_on

    stands-now : StandsIn old.limits.window on.journal now_given on.taken new.peer
    stands-now = holds-in old.limits.window on.journal now_given on.taken new.peer a.stands.holds

    upright-now : IsUpright (terms_of old) on.journal new.peer.lives new.peer.management
    upright-now = upright on.fed on.rest on.journal on.given on.taken on.stands.stands on.stands.upright

    abbrev placed : AskInTurn plan on.journal
    placed = subst (AskInTurn plan) (sym d.journal_is) in-turn

    listed-now : IsDeskOf plan on.journal (now_given 0) new.peer.management.answers
    listed-now =
        let later = subst (λ (j : List Item). StandsIn old.limits.window j now_given on.taken new.peer) d.journal_is stands-now in
        let before = subst (λ (j : List Item). StandsIn old.limits.window j on.given on.taken old.peer) d.journal_is
        (holds-in old.limits.window on.journal on.given on.taken old.peer on.stands.stands.holds) in
        subst (λ (j : List Item). IsDeskOf plan j (now_given 0) new.peer.management.answers) (sym d.journal_is)
        (asks-step plan old.limits.window d.item d.before d.placed on.given on.taken old.peer d.desk before taken
        (subst (λ (j : List Item). SaysAll plan j on.given) d.journal_is (sends-on plan p old log x on)) d.stuck
        in-turn d.plan_is.none (terms_of old) now_given on.taken new.peer (a.ask ∷ [])
        (with-same 0 (on.given 0 ++ message_marks a.ask) on.given ∙ ap (λ (ms : List Mark). on.given 0 ++ ms) (sym (append-nil (message_marks a.ask))))
        given-for kept later
        (subst (λ (j : List Item). IsUpright (terms_of old) j new.peer.lives new.peer.management) d.journal_is upright-now))

    pub asks-asking : DesksOn plan new log
    asks-asking = record {
      plan_is = plan-on plan old new same d.plan_is;
      on = now_on;
      meets = d.meets;
      listed = d.listed;
      placed = placed;
      desk = listed-now;
      stuck = desk-stuck plan old.limits.window on.journal now_given on.taken new.peer placed stands-now listed-now
          (all-done plan on.journal now_given says-now new.peer.management.answers);
    }
