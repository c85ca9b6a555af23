-- What a log shows of a sender that has ended.
use Rattle.std.proofs.Common.{◌≡◌, ℕ, Bool, true, false, List, [], ◌∷◌, ◌++◌, if◌then◌else◌, take, drop, append_assoc, take-append-drop, flat_map, None, refl, sym, ap, ◌∙◌, subst, arith}
use Rattle.beep_session.specs.beep_frame.specs.declared.kind.Kind.{Kind}
use Rattle.beep_session.specs.beep_frame.specs.Frame.{is_msg}
use Rattle.beep_session.specs.beep_history.specs.declared.journal.Side.{Side}
use Rattle.beep_session.specs.beep_history.specs.Journal.{Item}
use Rattle.beep_session.specs.beep_history.specs.Marks.{marks}
use Rattle.beep_session.specs.beep_journal.specs.Broken.{none_tunes}
use Rattle.beep_session.specs.beep_journal.specs.declared.role.Role.{Role}
use Rattle.beep_session.specs.beep_journal.specs.Journal.{Past, Shows as Shown}
use Rattle.beep_session.specs.beep_journal.specs.Laws.{IsUnbroken}
use Rattle.beep_session.specs.beep_journal.specs.Zero.{zero_history}
use Rattle.beep_session.specs.beep_journal.proofs.UnbrokenLemmas.{shown-unbroken}
use Rattle.beep_session.specs.beep_history.specs.Broken.{KeepsExchangeRules}
use Rattle.beep_session.specs.beep_journal.specs.Life.{is_released}
use Rattle.beep_session.specs.beep_journal.specs.Log.{Moment, got_all}
use Rattle.beep_session.specs.beep_journal.proofs.ShownLemmas.{one-shown}
use Rattle.beep_session.specs.beep_lawful.specs.declared.terms.Terms.{Terms}
use Rattle.beep_session.specs.beep_outbox.specs.Queue.{Message, message_marks as given_marks}
use Rattle.beep_session.specs.beep_standing.specs.Standing.{Marks, AreLiveBy}
use Rattle.beep_session.specs.beep_standing.proofs.ZeroLemmas.{none-live}
use Rattle.beep_desk.specs.beep_talk.specs.declared.plan.Command.{Command}
use Rattle.beep_desk.specs.beep_talk.specs.Plan.{PlainPlan}
use Rattle.beep_desk.specs.beep_talk.specs.Talk.{reply_of}
use Rattle.beep_desk.specs.beep_script.specs.Script.{message_marks}
use Rattle.beep_desk.specs.beep_script.specs.EachEnd.{WasGranted, HasSentAll}
use Rattle.beep_desk.specs.beep_script.specs.Refused.{refusal}
use Rattle.beep_released.proofs.ClosedLemmas.{close-granted, granted-count}
use Rattle.beep_desk.specs.beep_script.specs.Requested.{requests_from, sender_texts}
use Rattle.beep_desk.specs.beep_script.proofs.RequestedLemmas.{one-request}
use Rattle.beep_session.specs.beep_peer.specs.Peering.{is_over}
use Rattle.beep_session.specs.declared.event.Event.{Event}
use Rattle.beep_session.specs.Session.{Held}
use Rattle.beep_session.specs.Channels.{IsOfPeer}
use Rattle.beep_session.specs.Feeds.{Feeds}
use Rattle.beep_session.specs.Lawfully.{terms_of, IsLawfulSession, FeedsLawfully}
use Rattle.beep_session.specs.beep_peer.specs.Peering.{IsPeer}
use Rattle.beep_logged.specs.Logged.{IsSound}
use Rattle.beep_logged.proofs.EndLemmas.{released-gots}
use Rattle.beep_link.specs.beep_wires.specs.Log.{Entry, read}
use Rattle.beep_link.specs.Causes.{ended_by}
use Rattle.beep_link.specs.declared.ended.Stop.{Stop}
use Rattle.beep_steps.specs.Logs.{moments, command_of, Shows, ShowsFault, StopsOn}
use Rattle.beep_steps.specs.Refusing.{GoesUnrefused, RefusesOn, ShowsNoRefusal}
use Rattle.beep_steps.specs.Scripting.{AskedFirst}
use Rattle.beep_steps.specs.Sending.{Progress, IsSender, SendsOn, SendsWaiting, ShowsSent, SendsAll, StopsSending, TellsSent, at_first}
use Rattle.beep_steps.proofs.RefusesLemmas.{stop-refuses}
use Rattle.beep_steps.proofs.SendsLemmas.{keeps-zero, texts-are}
use Rattle.beep_steps.proofs.OnLemmas.{begins-on, over-on, released-on, stopped-on}
use Rattle.beep_steps.proofs.HeardSends.{FedSending, fed-sending}

shows-all : (plan : PlainPlan) (terms : Terms) (log : List Moment) → plan.terms ≡ terms → (sound : IsSound terms log) → sound.past.rest Side.Sent ≡ [] → HasSentAll plan sound.past.journal → ShowsSent plan log
shows-all plan terms log same sound whole all =
    let r = subst (λ (t : Terms). (one : IsSound t log) × (one.past.rest Side.Sent ≡ []) × HasSentAll plan one.past.journal) (sym same) (sound, whole, all) in
    record { sound = r.0; whole = r.1; all = r.2 }

module _ (plan : PlainPlan) (p : Progress) (session : Held) (log : List Moment) (s : SendsOn plan p session log) where
  abbrev journal : List Item
  journal = s.on.journal

  abbrev live : AreLiveBy session.limits.window journal s.on.given s.on.taken session.peer.lives
  live = s.on.stands.stands.holds.live

  keeps : KeepsExchangeRules (zero_history journal)
  keeps = keeps-zero plan.raw_uri s.sender.texts (terms_of session) s.sender.role journal s.on.given s.on.taken session.peer.lives live p.asked s.sends.asked

  unbroken : IsUnbroken none_tunes journal
  unbroken =
      let shown = s.on.logged.shown in
      subst (IsUnbroken none_tunes) shown.journal_is ((shown-unbroken none_tunes log shown.past shown.shows).0 shown.going)

  -- what was asked is the first of what a sender asks
  pub asked-first : AskedFirst plan (zero_history journal)
  asked-first =
      let texts = sender_texts plan.raw_uri in
      let more : List (List ℕ) = _ in
      let sent : requests_from [] (marks Side.Sent (zero_history journal)) ++ more ≡ take p.asked texts =
      texts-are plan.raw_uri s.sender.texts (terms_of session) s.sender.role journal s.on.given s.on.taken session.peer.lives live p.asked s.sends.asked in
      record {
        others = more ++ drop p.asked texts;
        asked = sym (append_assoc (requests_from [] (marks Side.Sent (zero_history journal))) more (drop p.asked texts)) ∙ ap (λ l. l ++ drop p.asked texts) sent ∙ take-append-drop p.asked texts;
      }

  granted : refusal Command.Send journal ≡ None → is_released journal ≡ true → WasGranted 2 journal
  granted none released =
      close-granted plan.raw_uri (terms_of session) journal _ p.asked s.sender.texts keeps
      (texts-are plan.raw_uri s.sender.texts (terms_of session) s.sender.role journal s.on.given s.on.taken session.peer.lives live p.asked s.sends.asked)
      unbroken s.on.stands.lawful none released

  -- the own close was asked once the end of the lines had gone
  lines-gone : WasGranted 2 journal → p.is_sent ≡ true
  lines-gone g =
      s.sends.closes (granted-count plan.raw_uri journal _ p.asked keeps
      (texts-are plan.raw_uri s.sender.texts (terms_of session) s.sender.role journal s.on.given s.on.taken session.peer.lives live p.asked s.sends.asked) g)

  -- all was sent, where the session is released and was refused nothing
  all-sent : refusal Command.Send journal ≡ None → is_released journal ≡ true → HasSentAll plan journal
  all-sent none released =
      let g = granted none released in
      record {
        released = released;
        lines = (s.sends.whole (lines-gone g)).whole ∙ ap (λ (x : Command). flat_map message_marks (reply_of x plan.lines 0)) (sym s.sender.command);
        closed = g;
      }

  -- a log that shows this journal shows no refusal of it
  none-shown : (other : List Moment) (past : Past) → Shown none_tunes other past → past.journal ≡ journal → ShowsNoRefusal (terms_of session) other → refusal Command.Send journal ≡ None
  none-shown other past shows is none =
      ap (refusal Command.Send) (sym is) ∙ ap (λ (r : Role). refusal (command_of r) past.journal) (sym s.sender.role) ∙ none past shows

  module _ (same : plan.terms ≡ terms_of session) where
    pub over-sent : is_over session.peer ≡ true → ShowsNoRefusal (terms_of session) log → ShowsSent plan log
    over-sent e none =
        let shown = s.on.logged.shown in
        shows-all plan (terms_of session) log same (record { past = shown.past; shows = shown.shows; going = shown.going; lawful = s.on.logged.lawful }) shown.whole
        (subst (HasSentAll plan) (sym shown.journal_is) (all-sent (none-shown log shown.past shown.shows shown.journal_is none) (over-on session log s.on e)))

    -- octets that come after the release
    pub after-sent : (octets : List ℕ) → session.peer.released ≡ true → ShowsNoRefusal (terms_of session) (got_all octets log) → ShowsSent plan (got_all octets log)
    after-sent octets e none =
        let released = released-on session log s.on e in
        let l = released-gots (terms_of session) s.on.rest octets journal log released s.on.logged in
        shows-all plan (terms_of session) (got_all octets log) same (record { past = l.shown.past; shows = l.shown.shows; going = l.shown.going; lawful = l.lawful }) l.shown.whole
        (subst (HasSentAll plan) (sym l.shown.journal_is) (all-sent (none-shown (got_all octets log) l.shown.past l.shown.shows l.shown.journal_is none) released))

-- and so of each session that the log shows
pub sends-all : (plan : PlainPlan) (log : List Entry) → ShowsSent plan (moments log) → SendsAll plan log
sends-all plan log s past shows =
    subst (λ (p : Past). HasSentAll plan p.journal) (one-shown none_tunes (moments log) s.sound.past past s.sound.shows shows) s.all

-- ---- where nothing has happened

-- nothing was given but a greeting
abbrev pub begins-sending : (plan : PlainPlan) (session : Held) (given taken : Marks) (message : Message) → IsSender plan session → message.tag.kind ≡ Kind.Rpy → given 0 ≡ given_marks message
    → IsLawfulSession session [] [] [] given taken → SendsOn plan at_first session []
begins-sending plan session given taken message who is_rpy given_is s = record {
  sender = who;
  on = begins-on session given taken s;
  sends = record {
    asked = ap (requests_from []) given_is ∙ one-request [] message.tag message.octets ∙ ap (λ (k : Kind). if is_msg k then message.octets ∷ [] else []) is_rpy;
    lines = λ alive. absurd (cc (none-live 1, alive));
    fresh = λ none. refl;
    some = λ going. record { unanswered = refl; first = refl; going = refl };
    whole = λ is. absurd (let g : false ≡ true = is in cc);
    closes = λ two. absurd (omega (arith, two));
  };
}

-- ---- a feed

-- what an event leaves that came as of so many of these octets
abbrev pub HeardSending : PlainPlan → Progress → Event → Held → ℕ → List ℕ → List Moment → Type 0
HeardSending plan p Event.More new count bytes log = SendsOn plan p new (got_all (take count bytes) log)
HeardSending plan p (Event.Arrived number) new count bytes log = SendsOn plan p new (got_all (take count bytes) log)
HeardSending plan p Event.Zero new count bytes log = SendsWaiting plan p new (got_all (take count bytes) log)
HeardSending plan p Event.Released new count bytes log = Unit {0}
HeardSending plan p (Event.Broken rule place) new count bytes log = Unit {0}
HeardSending plan p Event.NoMemory new count bytes log = Unit {0}

module _ (plan : PlainPlan) (p : Progress) (count : ℕ) (bytes : List ℕ) (old new : Held) (log : List Moment) where
  heard-sending : (event : Event) → FedSending plan p event (terms_of old) new (got_all (take count bytes) log) → HeardSending plan p event new count bytes log
  heard-sending Event.More f = f
  heard-sending (Event.Arrived number) f = f
  heard-sending Event.Zero f = f
  heard-sending Event.Released f = tt
  heard-sending (Event.Broken rule place) f = tt
  heard-sending Event.NoMemory f = tt

  pub hears-sending : (event : Event) (released : Bool) → old.peer.released ≡ released → IsOfPeer old new → new.peer.released ≡ old.peer.released
      → ((fed rest : List ℕ) (journal : List Item) (given taken : Marks) → old.peer.released ≡ false → IsPeer old.limits.window fed rest journal given taken old.peer
      → Feeds event old.limits.window (take count bytes) fed journal given taken new.peer)
      → ((fed rest : List ℕ) (journal : List Item) (given taken : Marks) → old.peer.released ≡ false → IsLawfulSession old fed rest journal given taken
      → FeedsLawfully event (terms_of old) (take count bytes) fed journal given taken new.peer)
      → (old.peer.released ≡ true → (count ≡ 0) × (event ≡ Event.Released) × (new ≡ old)) → SendsOn plan p old log → HeardSending plan p event new count bytes log
  hears-sending event true e same kept answers lawful rests s =
      subst (λ (x : Event). HeardSending plan p x new count bytes log) (sym (rests e).1) tt
  hears-sending event false e same kept answers lawful rests s =
      heard-sending event (fed-sending plan p (take count bytes) old new log same s e event kept (answers s.on.fed s.on.rest s.on.journal s.on.given s.on.taken e s.on.stands.stands)
      (lawful s.on.fed s.on.rest s.on.journal s.on.given s.on.taken e s.on.stands))

  -- a release that a feed tells has been before
  pub release-sent : (event : Event) (released : Bool) → old.peer.released ≡ released → event ≡ Event.Released
      → ((fed rest : List ℕ) (journal : List Item) (given taken : Marks) → old.peer.released ≡ false → IsPeer old.limits.window fed rest journal given taken old.peer
      → Feeds event old.limits.window (take count bytes) fed journal given taken new.peer)
      → SendsOn plan p old log → plan.terms ≡ terms_of old → ShowsNoRefusal plan.terms (got_all bytes log) → ShowsSent plan (got_all bytes log)
  release-sent event true e is answers s same none =
      after-sent plan p old log s same bytes e (subst (λ (t : Terms). ShowsNoRefusal t (got_all bytes log)) same none)
  release-sent event false e is answers s same none =
      absurd (subst (λ (x : Event). Feeds x old.limits.window (take count bytes) s.on.fed s.on.journal s.on.given s.on.taken new.peer) is
      (answers s.on.fed s.on.rest s.on.journal s.on.given s.on.taken e s.on.stands.stands))

-- ---- what stops a sender

-- what stops it within a read
pub tells-stop : (plan : PlainPlan) (p : Progress) (session : Held) (log : List Entry) (octets : List ℕ) (stop : Stop) → plan.terms ≡ terms_of session → SendsOn plan p session (moments log)
    → ShowsNoRefusal (terms_of session) (moments log) → StopsSending plan stop (got_all octets (moments log)) → RefusesOn (terms_of session) stop (got_all octets (moments log)) → TellsSent plan (ended_by stop) (read octets ∷ log)
tells-stop plan p session log octets stop same s none h r = of stop h r
  where
    shown : (stop : Stop) → StopsOn (terms_of session) stop (got_all octets (moments log)) → RefusesOn (terms_of session) stop (got_all octets (moments log))
        → Shows plan.terms (ended_by stop) (read octets ∷ log)
    shown stop k r = subst (λ (t : Terms). Shows t (ended_by stop) (read octets ∷ log)) (sym same) (stopped-on session log s.on octets stop k r)

    goes : (stop : Stop) → RefusesOn (terms_of session) stop (got_all octets (moments log)) → GoesUnrefused plan.terms (ended_by stop) (read octets ∷ log)
    goes stop r = subst (λ (t : Terms). GoesUnrefused t (ended_by stop) (read octets ∷ log)) (sym same) (stop-refuses (terms_of session) stop log octets none r)

    of : (stop : Stop) → StopsSending plan stop (got_all octets (moments log)) → RefusesOn (terms_of session) stop (got_all octets (moments log)) → TellsSent plan (ended_by stop) (read octets ∷ log)
    of Stop.Released h r = let sent = h (subst (λ (t : Terms). ShowsNoRefusal t (got_all octets (moments log))) (sym same) r) in record {
      shows = record { sound = sent.sound; whole = sent.whole; released = sent.all.released };
      sent = λ is. sent;
      unrefused = goes Stop.Released r;
    }
    of (Stop.Broken rule place) h r = record {
      shows = shown (Stop.Broken rule place) (subst (λ (t : Terms). ShowsFault t rule place (got_all octets (moments log))) same h) r;
      sent = λ is. absurd (cc is);
      unrefused = goes (Stop.Broken rule place) r;
    }
    of Stop.WriteFault h r = record { shows = shown Stop.WriteFault tt tt; sent = λ is. absurd (cc is); unrefused = goes Stop.WriteFault tt }
    of Stop.NoMemory h r = record { shows = shown Stop.NoMemory tt tt; sent = λ is. absurd (cc is); unrefused = goes Stop.NoMemory tt }
    of (Stop.Refused code) h r = record { shows = shown (Stop.Refused code) tt r; sent = λ is. absurd (cc is); unrefused = goes (Stop.Refused code) r }
