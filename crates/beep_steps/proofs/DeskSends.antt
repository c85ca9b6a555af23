-- What each call of a session leaves of a sender that keeps its script on channel zero: what it asks then may not be given.
use Rattle.std.proofs.Common.{◌≡◌, ◌∙◌, refl, sym, ap, subst, ℕ, Bool, true, false, List, [], ◌∷◌, ◌++◌, Option, None, Some}
use Rattle.std.specs.Prelude.{IfNone, IfSome}
use Rattle.beep_session.specs.beep_frame.specs.declared.head.Head.{Head}
use Rattle.beep_session.specs.beep_frame.specs.declared.seq.Seq.{Seq}
use Rattle.beep_session.specs.beep_frame.specs.Frame.{framed, is_msg}
use Rattle.beep_session.specs.beep_frame.specs.Spelling.{spelling}
use Rattle.beep_session.specs.beep_history.specs.declared.journal.Side.{Side}
use Rattle.beep_session.specs.beep_history.specs.Journal.{Item, began, passed}
use Rattle.beep_session.specs.beep_mgmt.specs.Message.{message_said}
use Rattle.beep_session.specs.beep_journal.specs.Log.{Moment, put_all}
use Rattle.beep_session.specs.beep_journal.specs.Zero.{completes_form, gathered, zero_history}
use Rattle.beep_session.specs.beep_inbox.specs.declared.part.Part.{Part}
use Rattle.beep_session.specs.beep_inbox.specs.Laws.{part_marks}
use Rattle.beep_session.specs.beep_standing.specs.Standing.{Marks, with_marks}
use Rattle.beep_session.specs.beep_answering.specs.declared.settled.Settled.{Settled}
use Rattle.beep_session.specs.beep_speaking.specs.declared.emit.Emit.{Emit}
use Rattle.beep_session.specs.beep_upright.specs.Frames.{AreFrames, IsFramed}
use Rattle.beep_session.specs.beep_upright.specs.Upright.{IsUpright}
use Rattle.beep_session.specs.beep_peer.specs.declared.peer.Peer.{Peer}
use Rattle.beep_session.specs.beep_peer.specs.Calls.{Settles, SettlesReply, SettlesRequest, Speaks}
use Rattle.beep_session.specs.beep_peer.specs.Lawfully.{SendsLawfully, SpeaksLawfully}
use Rattle.beep_session.specs.beep_peer.specs.Peering.{IsPeer, is_over}
use Rattle.beep_session.specs.beep_peer.specs.Standing.{standing_of}
use Rattle.beep_session.specs.beep_peer.specs.Waiting.{IsStuck}
use Rattle.beep_session.specs.Channels.{IsOfPeer, Takes}
use Rattle.beep_session.specs.Lawfully.{terms_of, IsLawfulSession, KeepsUpright}
use Rattle.beep_session.specs.Session.{Held}
use Rattle.beep_logged.proofs.EndLemmas.{put-append}
use Rattle.beep_logged.proofs.WriteLemmas.{frame-written, lawful-frame}
use Rattle.beep_desk.specs.beep_talk.specs.Plan.{PlainPlan}
use Rattle.beep_desk.specs.Waiting.{SaysAll}
use Rattle.beep_desk.proofs.ClearLemmas.{all-done}
use Rattle.beep_steps.specs.Desking.{DesksOn, DesksWaiting, DesksWithin, SaidDesk}
use Rattle.beep_steps.specs.Logs.{StandsOn, WaitsOn}
use Rattle.beep_steps.specs.Scripting.{ScriptedOn}
use Rattle.beep_steps.specs.Sending.{Progress}
use Rattle.beep_steps.proofs.CallLemmas.{on-so, settles-on}
use Rattle.beep_steps.proofs.CallScripts.{took-scripts}
use Rattle.beep_steps.proofs.DeskCalls.{reply-desk, request-desk, sent-desk, takes-desk, told-desk}
use Rattle.beep_steps.proofs.SendDone.{sends-on}

-- ---- what goes out

module _ (plan : PlainPlan) (q : Progress) (old new : Held) (before after : List ℕ) (log : List Moment) (d : DesksOn plan old (put_all before log)) (same : IsOfPeer old new)
    (x : ScriptedOn plan q new (put_all after log)) where
  sent-sends : (head : Head) → IsFramed (Emit.Data head) → SendsLawfully (terms_of old) d.on.fed d.on.rest d.on.journal d.on.given d.on.taken head old.peer new.peer before after
      → IsStuck new.peer.lives new.peer.management → DesksWithin plan new (put_all after log)
  sent-sends head is m stuck =
      let s = d.on in
      let octets = spelling (framed head m.payload) in
      let next = passed Side.Sent head m.payload ∷ began Side.Sent head ∷ s.journal in
      let where_is : put_all after log ≡ put_all octets (put_all before log) = ap (λ (y : List ℕ). put_all y log) m.spelled ∙ put-append before octets log in
      let is_frame = lawful-frame (terms_of old) s.journal head m.payload is m.lawful in
      let says : SaysAll plan next m.sent.given_now =
      subst (λ (l : List Moment). (e : StandsOn new l) → SaysAll plan e.journal e.given) where_is (sends-on plan q new (put_all after log) x)
      (on-so old new same s.fed s.rest next m.sent.given_now m.sent.taken_now (put_all octets (put_all before log))
      (record { stands = m.sent.stands; upright = m.upright; lawful = m.lawful }) (is_frame, (is, s.framed))
      (frame-written (terms_of old) s.rest s.journal (put_all before log) head m.payload s.logged is_frame m.lawful)) in
      sent-desk plan old new before after log d same head is m stuck (all-done plan next m.sent.given_now says old.peer.management.answers)

  rests-sends : new ≡ old → after ≡ before → DesksOn plan new (put_all after log)
  rests-sends is none =
      subst (λ (y : List ℕ). DesksOn plan new (put_all y log)) (sym none) (subst (λ (h : Held). DesksOn plan h (put_all before log)) (sym is) d)

  module _ (still : IsStuck old.peer.lives old.peer.management → IsStuck new.peer.lives new.peer.management) (most : ℕ) where
    speaks-sends : (result : Emit) → IsFramed result → SpeaksLawfully result (terms_of old) d.on.fed d.on.rest d.on.journal d.on.given d.on.taken old.peer new.peer before after
        → Speaks result old.limits.window most d.on.fed d.on.rest d.on.journal d.on.given d.on.taken old.peer new.peer before after
        → ((seq : Seq) → result ≡ Emit.Seq seq → (new.peer.management ≡ old.peer.management) × (new.peer.released ≡ old.peer.released))
        → ((head : Head) → result ≡ Emit.Data head → IsStuck new.peer.lives new.peer.management) → SaidDesk plan result new (put_all after log)
    speaks-sends (Emit.Seq seq) is m says told stuck = told-desk plan old new before after log d same seq is m.0 m.1 (told seq refl).0 still
    speaks-sends (Emit.Data head) is m says told stuck = sent-sends head is m (stuck head refl)
    speaks-sends Emit.Nothing is m says told stuck = rests-sends (same ∙ ap (λ (p : Peer). record old { peer = p }) says.0) m.0

    pub emits-asking : (result : Emit) (over : Bool) → is_over old.peer ≡ over
        → ((fed rest : List ℕ) (journal : List Item) (given taken : Marks) → is_over old.peer ≡ false → IsLawfulSession old fed rest journal given taken
        → SpeaksLawfully result (terms_of old) fed rest journal given taken old.peer new.peer before after)
        → ((fed rest : List ℕ) (journal : List Item) (given taken : Marks) → is_over old.peer ≡ false → IsLawfulSession old fed rest journal given taken → AreFrames journal
        → IsFramed result)
        → ((fed rest : List ℕ) (journal : List Item) (given taken : Marks) → is_over old.peer ≡ false → IsPeer old.limits.window fed rest journal given taken old.peer
        → Speaks result old.limits.window most fed rest journal given taken old.peer new.peer before after)
        → ((seq : Seq) → result ≡ Emit.Seq seq → (new.peer.management ≡ old.peer.management) × (new.peer.released ≡ old.peer.released))
        → ((head : Head) → result ≡ Emit.Data head → IsStuck new.peer.lives new.peer.management)
        → (is_over old.peer ≡ true → (result ≡ Emit.Nothing) × (new ≡ old) × (after ≡ before)) → SaidDesk plan result new (put_all after log)
    emits-asking result true e lawful frames speaks told stuck rests =
        let r = rests e in subst (λ (y : Emit). SaidDesk plan y new (put_all after log)) (sym r.0) (rests-sends r.1 r.2)
    emits-asking result false e lawful frames speaks told stuck rests =
        let on = d.on in
        speaks-sends result (frames on.fed on.rest on.journal on.given on.taken e on.stands on.framed) (lawful on.fed on.rest on.journal on.given on.taken e on.stands)
        (speaks on.fed on.rest on.journal on.given on.taken e on.stands.stands) told stuck

-- ---- a message of channel zero that is settled

module _ (plan : PlainPlan) (q : Progress) (old new : Held) (same : IsOfPeer old new) (log : List Moment) (d : DesksWaiting plan old log) (settled : Settled) (x : ScriptedOn plan q new log) where
  abbrev o : WaitsOn old log
  o = d.on

  abbrev next : List Item
  next = passed Side.Received o.head o.payload ∷ o.journal

  pub settles-asking : (is_msg o.head.kind ≡ true
      → SettlesRequest old.limits.window o.fed o.journal o.given o.taken o.head o.payload (standing_of old.role old.offers old.peer)
      (message_said (gathered Side.Received (zero_history o.journal) ++ o.payload)) settled old.peer.management.answers new.peer)
      → (is_msg o.head.kind ≡ false → SettlesReply old.limits.window o.fed o.journal o.given o.taken o.head o.payload old.peer.management.answers new.peer)
      → (is_msg o.head.kind ≡ false → completes_form Side.Received o.head o.payload (zero_history o.journal) ≡ true)
      → IsUpright (terms_of old) next new.peer.lives new.peer.management → IsStuck new.peer.lives new.peer.management → DesksWithin plan new log
  settles-asking request reply fits upright stuck = of (is_msg o.head.kind) refl
    where
      says : (m : Settles old.limits.window o.fed o.journal o.given o.taken o.head o.payload new.peer) → SaysAll plan next m.given_now
      says m = sends-on plan q new log x (settles-on old new same log o m upright fits)

      of : (b : Bool) → is_msg o.head.kind ≡ b → DesksWithin plan new log
      of true is =
          let r = request is in
          request-desk plan old new same log d settled r upright fits stuck is
          (all-done plan next r.settles.given_now (says r.settles) (old.peer.management.answers ++ r.answer ∷ []))
      of false is =
          let r = reply is in
          reply-desk plan old new same log d r upright fits stuck is (all-done plan next r.settles.given_now (says r.settles) old.peer.management.answers)

-- ---- a part that is taken

takes-sends : (plan : PlainPlan) (q : Progress) (number : ℕ) (part : Part) (octets : List ℕ) (old new : Held) (g : Takes number part octets old new) → KeepsUpright old new
    → IsStuck new.peer.lives new.peer.management → (log : List Moment) → DesksWithin plan old log → ScriptedOn plan q new log → DesksWithin plan new log
takes-sends plan q number part octets old new g upright stuck log d x =
    let on = d.on in
    let m = g.takes on.fed on.rest on.journal on.given on.taken on.stands.stands in
    takes-desk plan number part octets old new g upright stuck log d
    (all-done plan on.journal m.given_now (sends-on plan q new log x
    (on-so old new g.same on.fed on.rest on.journal m.given_now (with_marks number (on.taken number ++ part_marks part octets) on.taken) log
    (record { stands = m.stands; upright = upright on.fed on.rest on.journal on.given on.taken on.stands.stands on.stands.upright; lawful = on.stands.lawful }) on.framed on.logged))
    old.peer.management.answers)

pub took-asking : (plan : PlainPlan) (p : Progress) (result : Option Part) (number : ℕ) (octets : List ℕ) (old mid new : Held) → mid ≡ old
    → IfSome result (λ part. Takes number part octets mid new) → IfSome result (λ part. IsStuck new.peer.lives new.peer.management) → KeepsUpright mid new → IfNone result (new ≡ mid)
    → (log : List Moment) → ScriptedOn plan p old log → DesksWithin plan old log → DesksWithin plan new log
took-asking plan p None number octets old mid new same some stuck upright none log x d =
    subst (λ (h : Held). DesksWithin plan h log) (sym (none ∙ same)) d
took-asking plan p (Some part) number octets old mid new same some stuck upright none log x d =
    takes-sends plan p number part octets mid new some upright stuck log (subst (λ (h : Held). DesksWithin plan h log) (sym same) d)
    (took-scripts plan p (Some part) number octets old mid new same some upright none log x)
