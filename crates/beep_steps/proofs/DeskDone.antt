-- Once all that came is taken and all is given that is asked first, a listener's desk is what its script says; what goes before is so where it is said that it waits for.
use Rattle.std.proofs.Common.{◌≡◌, ◌∙◌, refl, sym, ap, subst, ℕ, ◌==◌, true, false, List, [], ◌∷◌, ◌++◌, map, Option, None, Some}
use Rattle.std.specs.Prelude.{is_some}
use Rattle.beep_session.specs.beep_frame.specs.declared.head.Head.{Head}
use Rattle.beep_session.specs.beep_frame.specs.Frame.{framed, is_msg}
use Rattle.beep_session.specs.beep_frame.specs.Spelling.{spelling}
use Rattle.beep_session.specs.beep_mgmt.specs.Message.{message_said}
use Rattle.beep_session.specs.beep_journal.specs.Zero.{completes_form, gathered, zero_history}
use Rattle.beep_session.specs.beep_inbox.specs.declared.part.Part.{Part}
use Rattle.beep_session.specs.beep_inbox.specs.Laws.{part_marks}
use Rattle.beep_session.specs.beep_answering.specs.declared.settled.Settled.{Settled}
use Rattle.beep_session.specs.beep_speaking.specs.declared.emit.Emit.{Emit}
use Rattle.beep_session.specs.beep_upright.specs.Frames.{IsFramed}
use Rattle.beep_session.specs.beep_upright.specs.Upright.{IsUpright}
use Rattle.beep_session.specs.beep_peer.specs.Calls.{Settles, SettlesReply, SettlesRequest}
use Rattle.beep_session.specs.beep_peer.specs.Lawfully.{SendsLawfully}
use Rattle.beep_session.specs.beep_peer.specs.Standing.{standing_of}
use Rattle.beep_session.specs.beep_peer.specs.Waiting.{IsStuck}
use Rattle.beep_session.specs.Channels.{IsOfPeer, Takes}
use Rattle.beep_session.specs.Lawfully.{terms_of, KeepsUpright}
use Rattle.beep_logged.proofs.EndLemmas.{put-append}
use Rattle.beep_logged.proofs.WriteLemmas.{frame-written, lawful-frame}
use Rattle.beep_desk.specs.beep_script.specs.Desk.{desk}
use Rattle.beep_desk.proofs.ClearLemmas.{all-done}
use Rattle.beep_desk.proofs.QuietLemmas.{asks-nothing}
use Rattle.beep_desk.proofs.OwedLemmas.{owed-true}
use Rattle.beep_steps.proofs.CallLemmas.{on-so, settles-on}
use Rattle.beep_steps.proofs.DeskBorn.{gone-done}
use Rattle.beep_session.specs.beep_history.specs.declared.journal.Side.{Side}
use Rattle.beep_session.specs.beep_history.specs.Journal.{Item, began, passed}
use Rattle.beep_session.specs.beep_history.specs.Marks.{marks, mark_modulo_2_64}
use Rattle.beep_session.specs.beep_journal.specs.Life.{history, is_there, life_now}
use Rattle.beep_session.specs.beep_journal.specs.Log.{Moment, put_all}
use Rattle.beep_session.specs.beep_channel.specs.Held.{Live}
use Rattle.beep_session.specs.beep_lives.specs.Lives.{live_at}
use Rattle.beep_session.specs.beep_outbox.specs.Queue.{marks_of as unsent_marks}
use Rattle.beep_session.specs.beep_standing.specs.Standing.{with_marks}
use Rattle.beep_session.specs.Session.{Held}
use Rattle.beep_desk.specs.beep_talk.specs.Plan.{PlainPlan}
use Rattle.beep_served.specs.Served.{HaveProfile}
use Rattle.beep_replies.specs.Replies.{first_said}
use Rattle.beep_desk.specs.Desks.{AreDoneFor}
use Rattle.beep_desk.specs.Waiting.{SaysAll}
use Rattle.beep_steps.specs.Desking.{DesksOn, DesksWaiting, DesksWithin}
use Rattle.beep_steps.specs.Logs.{AreTaken, StandsOn, WaitsOn}
use Rattle.beep_steps.specs.Speaking.{AllSpoken, IsSaid, Notes, SpeaksGone, SpeaksOn, SpeaksSo}
use Rattle.beep_steps.proofs.DeskCalls.{ends-desk, one-journal, reply-desk, request-desk, sent-desk, takes-desk}
use Rattle.beep_steps.proofs.SpeakDone.{says-all}

-- ---- one session on one log

some-at : (o : Option Live) → is_some o ≡ true → (c : Live) × (o ≡ Some c)
some-at None e = absurd cc
some-at (Some c) e = (c, refl)

-- what was given in a live life is one list of marks
pub one-given : (session : Held) (log : List Moment) (a b : StandsOn session log) (n : ℕ) → (n == 0) ≡ false → is_there n a.journal ≡ true → a.given n ≡ b.given n
one-given session log a b n above there =
    let c = some-at (live_at n session.peer.lives) (sym (a.stands.stands.holds.live.there n) ∙ there) in
    (a.stands.stands.holds.live.above n c.0 above c.1).all_given
    ∙ ap (λ (j : List Item). map mark_modulo_2_64 (marks Side.Sent (history n j)) ++ unsent_marks c.0.held.queue) (one-journal session log a b)
    ∙ sym (b.stands.stands.holds.live.above n c.0 above c.1).all_given

-- so what is said by one is said by the other
pub says-as : (plan : PlainPlan) (notes : Notes) (session : Held) (log : List Moment) (a b : StandsOn session log) → SpeaksSo plan notes a.journal a.given → SpeaksSo plan notes b.journal b.given
says-as plan notes session log a b s =
    subst (λ (j : List Item). SpeaksSo plan notes j b.given) (one-journal session log a b) (record {
      said = λ n above there among. subst (IsSaid plan (first_said plan n (life_now n a.journal) a.journal)) (one-given session log a b n above there) (s.said n above there among);
      silent = λ n above there none. sym (one-given session log a b n above there) ∙ s.silent n above there none;
      leaving = s.leaving;
      keeps = s.keeps;
    })

-- ---- all is said

pub says-on : (plan : PlainPlan) (notes : Notes) (session : Held) (log : List Moment) (s : SpeaksOn plan notes session log) → HaveProfile plan.raw_uri s.on.journal
    → (on : StandsOn session log) → SaysAll plan on.journal on.given
says-on plan notes session log s have on =
    let same = one-journal session log s.on on in
    says-all plan s.listens session.limits.window notes on.journal on.given on.taken session.peer.lives on.stands.stands.holds.live (subst (HaveProfile plan.raw_uri) same have)
    (says-as plan notes session log s.on on s.scripts) (subst (AllSpoken notes) same s.noted.all)

-- the desk is what the script says
pub closes-desk : (plan : PlainPlan) (notes : Notes) (session : Held) (log : List Moment) (d : DesksWithin plan session log) (s : SpeaksOn plan notes session log) → AreTaken session
    → HaveProfile plan.raw_uri s.on.journal → DesksOn plan session log
closes-desk plan notes session log d s taken have =
    ends-desk plan session log d (asks-nothing plan d.item d.before s.listens) taken (says-on plan notes session log s have d.on)

-- ---- a message of channel zero that is settled

module _ (plan : PlainPlan) (notes : Notes) (old new : Held) (same : IsOfPeer old new) (log : List Moment) (d : DesksWaiting plan old log) (s : SpeaksOn plan notes new log)
    (taken : AreTaken new) (have : HaveProfile plan.raw_uri s.on.journal) where
  abbrev o : WaitsOn old log
  o = d.on

  abbrev next : List Item
  next = passed Side.Received o.head o.payload ∷ o.journal

  module _ (upright : IsUpright (terms_of old) next new.peer.lives new.peer.management)
      (fits : is_msg o.head.kind ≡ false → completes_form Side.Received o.head o.payload (zero_history o.journal) ≡ true) (stuck : IsStuck new.peer.lives new.peer.management) where
    -- all is said in each life
    says : (m : Settles old.limits.window o.fed o.journal o.given o.taken o.head o.payload new.peer) → SaysAll plan next m.given_now
    says m = says-on plan notes new log s have (settles-on old new same log o m upright fits)

    pub reply-closes : (r : SettlesReply old.limits.window o.fed o.journal o.given o.taken o.head o.payload old.peer.management.answers new.peer) → is_msg o.head.kind ≡ false
        → DesksOn plan new log
    reply-closes r reply =
        closes-desk plan notes new log
        (reply-desk plan old new same log d r upright fits stuck reply (all-done plan next r.settles.given_now (says r.settles) old.peer.management.answers)) s taken have

    pub request-closes : (settled : Settled)
        (r : SettlesRequest old.limits.window o.fed o.journal o.given o.taken o.head o.payload (standing_of old.role old.offers old.peer)
        (message_said (gathered Side.Received (zero_history o.journal) ++ o.payload)) settled old.peer.management.answers new.peer)
        → is_msg o.head.kind ≡ true → DesksOn plan new log
    request-closes settled r request =
        closes-desk plan notes new log
        (request-desk plan old new same log d settled r upright fits stuck request
        (all-done plan next r.settles.given_now (says r.settles) (old.peer.management.answers ++ r.answer ∷ []))) s taken have

-- ---- a part that is taken

pub takes-on : (plan : PlainPlan) (notes : Notes) (number : ℕ) (part : Part) (octets : List ℕ) (old new : Held) (g : Takes number part octets old new) → KeepsUpright old new
    → IsStuck new.peer.lives new.peer.management → (log : List Moment) → DesksWithin plan old log → (s : SpeaksOn plan notes new log) → HaveProfile plan.raw_uri s.on.journal
    → DesksWithin plan new log
takes-on plan notes number part octets old new g upright stuck log d s have =
    let on = d.on in
    let m = g.takes on.fed on.rest on.journal on.given on.taken on.stands.stands in
    takes-desk plan number part octets old new g upright stuck log d
    (all-done plan on.journal m.given_now (says-on plan notes new log s have
    (on-so old new g.same on.fed on.rest on.journal m.given_now (with_marks number (on.taken number ++ part_marks part octets) on.taken) log
    (record { stands = m.stands; upright = upright on.fed on.rest on.journal on.given on.taken on.stands.stands on.stands.upright; lawful = on.stands.lawful }) on.framed on.logged))
    old.peer.management.answers)

-- ---- a frame that goes out

pub sent-on : (plan : PlainPlan) (notes : Notes) (old new : Held) (before after : List ℕ) (log : List Moment) (d : DesksOn plan old (put_all before log)) (same : IsOfPeer old new)
    (head : Head) → IsFramed (Emit.Data head)
    → (m : SendsLawfully (terms_of old) d.on.fed d.on.rest d.on.journal d.on.given d.on.taken head old.peer new.peer before after) → IsStuck new.peer.lives new.peer.management
    → (g : SpeaksGone plan notes new (put_all after log)) → HaveProfile plan.raw_uri g.on.journal → AllSpoken notes d.on.journal → DesksWithin plan new (put_all after log)
sent-on plan notes old new before after log d same head is m stuck g have spoken =
    let s = d.on in
    let octets = spelling (framed head m.payload) in
    let next = passed Side.Sent head m.payload ∷ began Side.Sent head ∷ s.journal in
    let where_is : put_all after log ≡ put_all octets (put_all before log) = ap (λ (x : List ℕ). put_all x log) m.spelled ∙ put-append before octets log in
    let is_frame = lawful-frame (terms_of old) s.journal head m.payload is m.lawful in
    sent-desk plan old new before after log d same head is m stuck
    (born (subst (λ (l : List Moment). (e : StandsOn new l) → SpeaksSo plan notes e.journal e.given × HaveProfile plan.raw_uri e.journal) where_is
    (λ e. (says-as plan notes new (put_all after log) g.on e g.scripts, subst (HaveProfile plan.raw_uri) (one-journal new (put_all after log) g.on e) have))
    (on-so old new same s.fed s.rest next m.sent.given_now m.sent.taken_now (put_all octets (put_all before log))
    (record { stands = m.sent.stands; upright = m.upright; lawful = m.lawful }) (is_frame, (is, s.framed))
    (frame-written (terms_of old) s.rest s.journal (put_all before log) head m.payload s.logged is_frame m.lawful))))
  where
    born : SpeaksSo plan notes (passed Side.Sent head m.payload ∷ began Side.Sent head ∷ d.on.journal) m.sent.given_now × HaveProfile plan.raw_uri (passed Side.Sent head m.payload ∷ began Side.Sent head ∷ d.on.journal)
        → AreDoneFor plan (passed Side.Sent head m.payload ∷ began Side.Sent head ∷ d.on.journal) m.sent.given_now old.peer.management.answers
    born both =
        gone-done plan g.listens notes old.limits.window head m.payload d.on.journal m.sent.given_now m.sent.taken_now new.peer.lives m.sent.stands.holds.live both.1 both.0 spoken
        (desk plan d.on.journal).owed old.peer.management.answers (owed-true plan d.on.journal) d.desk.waits
