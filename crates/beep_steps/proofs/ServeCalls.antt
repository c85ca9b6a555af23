-- What each call of a session leaves of a listener that stands for a log.
use Rattle.std.proofs.Common.{◌≡◌, ℕ, ◌==◌, Bool, true, false, List, [], ◌∷◌, ◌++◌, Option, None, Some, refl, sym, ap, ◌∙◌, subst}
use Rattle.std.specs.Prelude.{Result, Ok, Err, OnOk, OnErr, IfSome, IfNone}
use Rattle.std.specs.List.{list_any}
use Rattle.beep_session.specs.beep_frame.specs.declared.kind.Kind.{Kind}
use Rattle.beep_session.specs.beep_frame.specs.declared.seq.Seq.{Seq}
use Rattle.beep_session.specs.beep_frame.specs.Frame.{framed, seq_frame, is_msg}
use Rattle.beep_session.specs.beep_frame.specs.Spelling.{spelling}
use Rattle.beep_session.specs.beep_history.specs.declared.journal.Side.{Side}
use Rattle.beep_session.specs.beep_history.specs.Journal.{Item, began, passed, told}
use Rattle.beep_session.specs.beep_history.specs.Marks.{Mark}
use Rattle.beep_session.specs.beep_mgmt.specs.Form.{Form}
use Rattle.beep_session.specs.beep_mgmt.specs.Message.{message_said, message_text}
use Rattle.beep_session.specs.beep_journal.specs.Zero.{zero_history, gathered, completes_form}
use Rattle.beep_session.specs.beep_journal.specs.Log.{Moment, got_all, put_all}
use Rattle.beep_session.specs.beep_inbox.specs.declared.part.Part.{Part}
use Rattle.beep_session.specs.beep_standing.specs.Standing.{Marks}
use Rattle.beep_session.specs.beep_standing.proofs.SendLemmas.{with-other}
use Rattle.beep_session.specs.beep_hearing.specs.declared.ear.Ear.{Ear}
use Rattle.beep_session.specs.beep_hearing.specs.Hears.{Hears}
use Rattle.beep_session.specs.beep_decide.specs.Decide.{PlainOffer, PlainStanding, decide}
use Rattle.beep_session.specs.beep_answering.specs.declared.settled.Settled.{Settled}
use Rattle.beep_session.specs.beep_answering.specs.Sent.{greeting_of}
use Rattle.beep_session.specs.beep_management.specs.Managed.{Prepared}
use Rattle.beep_session.specs.beep_outbox.specs.Queue.{message_marks}
use Rattle.beep_session.specs.beep_giving.specs.Giving.{next_message}
use Rattle.beep_session.specs.beep_speaking.specs.declared.emit.Emit.{Emit}
use Rattle.beep_session.specs.beep_upright.specs.Frames.{AreFrames, IsFramed}
use Rattle.beep_session.specs.beep_upright.specs.Upright.{IsUpright}
use Rattle.beep_session.specs.beep_peer.specs.Acts.{IsUnchanged}
use Rattle.beep_session.specs.beep_peer.specs.Calls.{Begins, Settles, SettlesReply, SettlesRequest}
use Rattle.beep_session.specs.beep_peer.specs.Lawfully.{SpeaksLawfully}
use Rattle.beep_session.specs.beep_peer.specs.Peering.{IsPeer, is_over}
use Rattle.beep_session.specs.declared.event.Event.{Event}
use Rattle.beep_session.specs.Channels.{IsOfPeer, IsStill, Gives, Takes}
use Rattle.beep_session.specs.Feeds.{Feeds}
use Rattle.beep_session.specs.Lawfully.{terms_of, IsLawfulSession, KeepsUpright, FeedsLawfully, GainsLawfully, WaitsLawfully}
use Rattle.beep_session.specs.Session.{Held}
use Rattle.beep_logged.proofs.EndLemmas.{put-append}
use Rattle.beep_logged.proofs.WriteLemmas.{frame-written, seq-written, lawful-frame}
use Rattle.beep_desk.specs.beep_talk.specs.Plan.{PlainPlan}
use Rattle.beep_steps.specs.Logs.{WaitsOn}
use Rattle.beep_steps.specs.Serving.{IsListener, Serves, ServesOn, ServesWaiting, KeepsServing}
use Rattle.beep_steps.proofs.CallLemmas.{on-so, gained-on, waits-on, settles-on}
use Rattle.beep_steps.proofs.CallSends.{prepared-none}
use Rattle.beep_steps.proofs.OnLemmas.{begins-on}
use Rattle.beep_steps.proofs.SettleSends.{more-none, answer-kind}
use Rattle.beep_steps.proofs.ServeLemmas.{first-serves, more-serves, answer-says, begins-serving}

-- ---- a session that begins

pub begins-listener : (plan : PlainPlan) (session : Held) (size : ℕ) (offers : List PlainOffer) (b : Begins size (message_text (greeting_of offers)) session.peer) (taken : Marks)
    → IsListener plan session → IsLawfulSession session [] [] [] b.given taken → ServesOn plan session []
begins-listener plan session size offers b taken listener lawful = record {
  listener = listener;
  on = begins-on session b.given taken lawful;
  serves = begins-serving plan.raw_uri size offers session.peer b;
}

module _ (plan : PlainPlan) (old new : Held) (same : IsOfPeer old new) where
  pub listener-so : IsListener plan old → IsListener plan new
  listener-so s = record { offer = s.offer; one = ap (λ h. h.offers) same ∙ s.one; uri = s.uri }

  -- ---- a call that brings nothing and sends nothing

  abbrev Moves : Type 0
  Moves = (fed rest : List ℕ) (journal : List Item) (given taken : Marks) → IsPeer old.limits.window fed rest journal given taken old.peer
      → (now : Marks) × (later : Marks) × IsPeer old.limits.window fed rest journal now later new.peer

  peer-serves : (f : Moves) → KeepsUpright old new
      → ((fed rest : List ℕ) (journal : List Item) (given taken : Marks) (is : IsPeer old.limits.window fed rest journal given taken old.peer)
      → Serves plan.raw_uri (given 0) old.peer.management.answers → Serves plan.raw_uri ((f fed rest journal given taken is).0 0) new.peer.management.answers) → KeepsServing plan old new
  peer-serves f upright step log s =
      let on = s.on in
      let m = f on.fed on.rest on.journal on.given on.taken on.stands.stands in
      record {
        listener = listener-so s.listener;
        on = on-so old new same on.fed on.rest on.journal m.0 m.1 log
            (record { stands = m.2; upright = upright on.fed on.rest on.journal on.given on.taken on.stands.stands on.stands.upright; lawful = on.stands.lawful }) on.framed on.logged;
        serves = step on.fed on.rest on.journal on.given on.taken on.stands.stands s.serves;
      }

  -- the answers that wait stay
  answers-serve : (given : List Mark) (before after : List Prepared) → after ≡ before → Serves plan.raw_uri given before → Serves plan.raw_uri given after
  answers-serve given before after is s = subst (Serves plan.raw_uri given) (sym is) s

  pub unchanged-serves : IsUnchanged old.peer new.peer → KeepsUpright old new → KeepsServing plan old new
  unchanged-serves g upright = peer-serves (λ fed rest journal given taken is. (
    given,
    taken,
    record {
      hears = subst (λ (x : Ear). Hears fed rest journal x) (sym g.ear) is.hears;
      holds = g.holds old.limits.window journal given taken is.holds;
      released = g.released ∙ is.released;
    },
  )) upright (λ fed rest journal given taken is s. answers-serve (given 0) old.peer.management.answers new.peer.management.answers g.kept.answers s)

  -- a message is given above channel zero
  pub gives-serves : (number : ℕ) (kind : Kind) (octets : List ℕ) → (number == 0) ≡ false → Gives number kind octets old new → KeepsUpright old new → KeepsServing plan old new
  gives-serves number kind octets above g upright =
      peer-serves (λ fed rest journal given taken is. (_, taken, (g.gives fed rest journal given taken is).stands)) upright
      (λ fed rest journal given taken is s.
      subst (λ (ms : List Mark). Serves plan.raw_uri ms new.peer.management.answers) (sym (with-other number 0 (given number ++ message_marks (next_message kind octets (given number))) given above))
      (answers-serve (given 0) old.peer.management.answers new.peer.management.answers (ap (λ m. m.answers) g.kept) s))

  -- a part is taken
  pub takes-serves : (number : ℕ) (part : Part) (octets : List ℕ) → Takes number part octets old new → KeepsUpright old new → KeepsServing plan old new
  takes-serves number part octets g upright =
      peer-serves (λ fed rest journal given taken is. let m = g.takes fed rest journal given taken is in (m.given_now, _, m.stands)) upright
      (λ fed rest journal given taken is s.
      let m = g.takes fed rest journal given taken is in
      let w = is.holds.manages in
      first-serves plan.raw_uri given m.given_now old.peer.management.answers new.peer (prepared-none old.peer.management.answers w.prepared w.is.answers) w.is.spoken_is.whole m.gives s)

-- ---- by what a call answers

-- a part that is taken, or none
pub took-serves : (plan : PlainPlan) (result : Option Part) (number : ℕ) (octets : List ℕ) (old mid new : Held) → mid ≡ old
    → IfSome result (λ part. Takes number part octets mid new) → KeepsUpright mid new → IfNone result (new ≡ mid) → KeepsServing plan old new
took-serves plan None number octets old mid new same some upright none = subst (KeepsServing plan old) (sym (none ∙ same)) (λ log s. s)
took-serves plan (Some part) number octets old mid new same some upright none =
    subst (λ (x : Held). KeepsServing plan x new) same (takes-serves plan mid new some.same number part octets some upright)

module _ (plan : PlainPlan) (old new : Held) where
  pub still-serves : IsStill old new → KeepsUpright old new → KeepsServing plan old new
  still-serves s upright = unchanged-serves plan old new s.same s.peer upright

  -- a message that is given, or isn't
  pub given-serves : {A E : Type 0} (result : Result A E) (number : ℕ) (kind : Kind) (octets : List ℕ) → (number == 0) ≡ false → KeepsUpright old new
      → OnOk result (Gives number kind octets old new) → OnErr result (IsStill old new) → KeepsServing plan old new
  given-serves (Ok value) number kind octets above upright g e = gives-serves plan old new g.same number kind octets above g upright
  given-serves (Err error) number kind octets above upright g e = still-serves e upright

pub same-serves : (plan : PlainPlan) (old mid new : Held) → mid ≡ old → KeepsServing plan mid new → KeepsServing plan old new
same-serves plan old mid new same h = subst (λ (x : Held). KeepsServing plan x new) same h

-- what was given by a call that gave its handle up
pub gone-serves : {A E : Type 0} (plan : PlainPlan) (result : Result A E) (value : A) (number : ℕ) (kind : Kind) (octets : List ℕ) (old mid new : Held) → (number == 0) ≡ false → result ≡ Ok value → mid ≡ old
    → OnOk result (Gives number kind octets mid new × KeepsUpright mid new) → KeepsServing plan old new
gone-serves {A} {E} plan result value number kind octets old mid new above is same g =
    let h : Gives number kind octets mid new × KeepsUpright mid new = subst (λ (r : Result A E). OnOk r (Gives number kind octets mid new × KeepsUpright mid new)) is g in
    same-serves plan old mid new same (gives-serves plan mid new h.0.same number kind octets above h.0 h.1)

-- ---- what comes

-- what is kept of channel zero stays, and the answers with it
pub answers-kept : (new old : Held) → new.peer.management ≡ old.peer.management → new.peer.management.answers ≡ old.peer.management.answers
answers-kept new old kept = ap (λ m. m.answers) kept

-- what an event leaves that came as of so many of these octets
abbrev pub HeardServing : PlainPlan → Event → Held → List Moment → Type 0
HeardServing plan Event.More new log = ServesOn plan new log
HeardServing plan (Event.Arrived number) new log = ServesOn plan new log
HeardServing plan Event.Zero new log = ServesWaiting plan new log
HeardServing plan Event.Released new log = Unit {0}
HeardServing plan (Event.Broken rule place) new log = Unit {0}
HeardServing plan Event.NoMemory new log = Unit {0}

module _ (plan : PlainPlan) (octets : List ℕ) (old new : Held) (log : List Moment) (same : IsOfPeer old new) (s : ServesOn plan old log)
    (answers : new.peer.management.answers ≡ old.peer.management.answers) where
  serves : Serves plan.raw_uri (s.on.given 0) new.peer.management.answers
  serves = answers-serve plan old new same (s.on.given 0) old.peer.management.answers new.peer.management.answers answers s.serves

  module _ (going : old.peer.released ≡ false) where
    gained-serving : GainsLawfully (terms_of old) octets s.on.fed s.on.journal s.on.given s.on.taken new.peer → ServesOn plan new (got_all octets log)
    gained-serving g = record {
      listener = listener-so plan old new same s.listener;
      on = gained-on octets old new log same s.on going g;
      serves = serves;
    }

    waits-serving : new.peer.released ≡ old.peer.released → WaitsLawfully (terms_of old) octets s.on.fed s.on.journal s.on.given s.on.taken new.peer → ServesWaiting plan new (got_all octets log)
    waits-serving kept g = record {
      listener = listener-so plan old new same s.listener;
      on = waits-on octets old new log same s.on going kept g;
      serves = serves;
    }

    fed-serving : (event : Event) → new.peer.released ≡ old.peer.released → Feeds event old.limits.window octets s.on.fed s.on.journal s.on.given s.on.taken new.peer
        → FeedsLawfully event (terms_of old) octets s.on.fed s.on.journal s.on.given s.on.taken new.peer → HeardServing plan event new (got_all octets log)
    fed-serving Event.More kept f g = gained-serving g
    fed-serving (Event.Arrived number) kept f g = gained-serving g
    fed-serving Event.Zero kept f g = waits-serving kept g
    fed-serving Event.Released kept f g = tt
    fed-serving (Event.Broken rule place) kept f g = tt
    fed-serving Event.NoMemory kept f g = tt

  pub hears-serving : (event : Event) (released : Bool) → old.peer.released ≡ released → new.peer.released ≡ old.peer.released
      → ((fed rest : List ℕ) (journal : List Item) (given taken : Marks) → old.peer.released ≡ false → IsPeer old.limits.window fed rest journal given taken old.peer
      → Feeds event old.limits.window octets fed journal given taken new.peer)
      → ((fed rest : List ℕ) (journal : List Item) (given taken : Marks) → old.peer.released ≡ false → IsLawfulSession old fed rest journal given taken
      → FeedsLawfully event (terms_of old) octets fed journal given taken new.peer)
      → (old.peer.released ≡ true → event ≡ Event.Released) → HeardServing plan event new (got_all octets log)
  hears-serving event true e kept feeds lawful rests = subst (λ (x : Event). HeardServing plan x new (got_all octets log)) (sym (rests e)) tt
  hears-serving event false e kept feeds lawful rests =
      fed-serving e event kept (feeds s.on.fed s.on.rest s.on.journal s.on.given s.on.taken e s.on.stands.stands)
      (lawful s.on.fed s.on.rest s.on.journal s.on.given s.on.taken e s.on.stands)

-- ---- a message is settled

module _ (plan : PlainPlan) (old new : Held) (same : IsOfPeer old new) (log : List Moment) (w : ServesWaiting plan old log) (settled : Settled) where
  abbrev o : WaitsOn old log
  o = w.on

  abbrev past : List Item
  past = zero_history o.journal

  abbrev now : List Item
  now = passed Side.Received o.head o.payload ∷ o.journal

  abbrev said : Option Form
  said = message_said (gathered Side.Received past ++ o.payload)

  -- of some answers, of which none asks anything and none says another profile, the first were given
  record Quietly : Type 0 where
    pub settles : Settles old.limits.window o.fed o.journal o.given o.taken o.head o.payload new.peer
    pub none : list_any (λ a. is_msg a.kind) settles.answers ≡ false
    pub serves : Serves plan.raw_uri (o.given 0) settles.answers

  answers-none : list_any (λ a. is_msg a.kind) old.peer.management.answers ≡ false
  answers-none = prepared-none old.peer.management.answers o.waits.manages.prepared o.waits.manages.is.answers

  by-reply : SettlesReply old.limits.window o.fed o.journal o.given o.taken o.head o.payload old.peer.management.answers new.peer → Quietly
  by-reply r = record {
    settles = r.settles;
    none = ap (list_any (λ a. is_msg a.kind)) r.joined ∙ answers-none;
    serves = subst (Serves plan.raw_uri (o.given 0)) (sym r.joined) w.serves;
  }

  by-request : (standing : PlainStanding) → standing.offers ≡ old.offers
      → SettlesRequest old.limits.window o.fed o.journal o.given o.taken o.head o.payload standing said settled old.peer.management.answers new.peer → Quietly
  by-request standing offers r = record {
    settles = r.settles;
    none = ap (list_any (λ a. is_msg a.kind)) r.joined
        ∙ more-none old.peer.management.answers r.answer answers-none (ap is_msg r.kind ∙ answer-kind (decide standing said));
    serves = subst (Serves plan.raw_uri (o.given 0)) (sym r.joined)
        (more-serves plan.raw_uri (o.given 0) old.peer.management.answers r.answer
        (answer-says plan.raw_uri standing w.listener.offer said settled r.answer.waits r.answer.octets (offers ∙ w.listener.one) w.listener.uri r.says r.by) w.serves);
  }

  settled-serves : Quietly → IsUpright (terms_of old) now new.peer.lives new.peer.management
      → (is_msg o.head.kind ≡ false → completes_form Side.Received o.head o.payload past ≡ true) → ServesOn plan new log
  settled-serves q upright fits = record {
    listener = listener-so plan old new same w.listener;
    on = settles-on old new same log o q.settles upright fits;
    serves = first-serves plan.raw_uri o.given q.settles.given_now q.settles.answers new.peer q.none o.waits.manages.is.spoken_is.whole q.settles.gives q.serves;
  }

  pub settles-serving : (standing : PlainStanding) → standing.offers ≡ old.offers
      → (is_msg o.head.kind ≡ true → SettlesRequest old.limits.window o.fed o.journal o.given o.taken o.head o.payload standing said settled old.peer.management.answers new.peer)
      → (is_msg o.head.kind ≡ false → SettlesReply old.limits.window o.fed o.journal o.given o.taken o.head o.payload old.peer.management.answers new.peer)
      → IsUpright (terms_of old) now new.peer.lives new.peer.management
      → (is_msg o.head.kind ≡ false → completes_form Side.Received o.head o.payload past ≡ true) → ServesOn plan new log
  settles-serving standing offers request reply upright fits = of (is_msg o.head.kind) refl
    where
      of : (b : Bool) → is_msg o.head.kind ≡ b → ServesOn plan new log
      of true is = settled-serves (by-request standing offers (request is)) upright fits
      of false is = settled-serves (by-reply (reply is)) upright fits

-- ---- what goes out

module _ (plan : PlainPlan) (old new : Held) (before after : List ℕ) (log : List Moment) (s : ServesOn plan old (put_all before log)) (same : IsOfPeer old new) where
  speaks-serves : (result : Emit) → IsFramed result
      → ((seq : Seq) → result ≡ Emit.Seq seq → new.peer.management.answers ≡ old.peer.management.answers) → (result ≡ Emit.Nothing → new.peer.management.answers ≡ old.peer.management.answers)
      → SpeaksLawfully result (terms_of old) s.on.fed s.on.rest s.on.journal s.on.given s.on.taken old.peer new.peer before after → ServesOn plan new (put_all after log)
  speaks-serves (Emit.Seq seq) is told_kept rests_kept m =
      subst (ServesOn plan new) (sym (ap (λ (x : List ℕ). put_all x log) m.0 ∙ put-append before (spelling (seq_frame seq)) log))
      (record {
        listener = listener-so plan old new same s.listener;
        on = on-so old new same s.on.fed s.on.rest (told Side.Sent seq ∷ s.on.journal) s.on.given s.on.taken (put_all (spelling (seq_frame seq)) (put_all before log)) m.1 (is, s.on.framed)
            (seq-written (terms_of old) s.on.rest s.on.journal (put_all before log) seq s.on.logged is m.1.lawful);
        serves = answers-serve plan old new same (s.on.given 0) old.peer.management.answers new.peer.management.answers (told_kept seq refl) s.serves;
      })
  speaks-serves (Emit.Data head) is told_kept rests_kept m =
      let is_frame = lawful-frame (terms_of old) s.on.journal head m.payload is m.lawful in
      let manages = s.on.stands.stands.holds.manages in
      subst (ServesOn plan new) (sym (ap (λ (x : List ℕ). put_all x log) m.spelled ∙ put-append before (spelling (framed head m.payload)) log))
      (record {
        listener = listener-so plan old new same s.listener;
        on = on-so old new same s.on.fed s.on.rest (passed Side.Sent head m.payload ∷ began Side.Sent head ∷ s.on.journal) m.sent.given_now m.sent.taken_now
            (put_all (spelling (framed head m.payload)) (put_all before log)) (record { stands = m.sent.stands; upright = m.upright; lawful = m.lawful })
            (is_frame, (is, s.on.framed)) (frame-written (terms_of old) s.on.rest s.on.journal (put_all before log) head m.payload s.on.logged is_frame m.lawful);
        serves = first-serves plan.raw_uri s.on.given m.sent.given_now old.peer.management.answers new.peer (prepared-none old.peer.management.answers manages.prepared manages.is.answers)
            manages.is.spoken_is.whole m.sent.gives s.serves;
      })
  speaks-serves Emit.Nothing is told_kept rests_kept m =
      subst (λ (x : List ℕ). ServesOn plan new (put_all x log)) (sym m.0)
      (record {
        listener = listener-so plan old new same s.listener;
        on = on-so old new same s.on.fed s.on.rest s.on.journal s.on.given s.on.taken (put_all before log) m.1 s.on.framed s.on.logged;
        serves = answers-serve plan old new same (s.on.given 0) old.peer.management.answers new.peer.management.answers (rests_kept refl) s.serves;
      })

  pub emits-serving : (result : Emit) (over : Bool) → is_over old.peer ≡ over
      → ((fed rest : List ℕ) (journal : List Item) (given taken : Marks) → is_over old.peer ≡ false → IsLawfulSession old fed rest journal given taken
      → SpeaksLawfully result (terms_of old) fed rest journal given taken old.peer new.peer before after)
      → ((fed rest : List ℕ) (journal : List Item) (given taken : Marks) → is_over old.peer ≡ false → IsLawfulSession old fed rest journal given taken → AreFrames journal
      → IsFramed result)
      → ((seq : Seq) → result ≡ Emit.Seq seq → new.peer.management.answers ≡ old.peer.management.answers)
      → (is_over old.peer ≡ false → result ≡ Emit.Nothing → new.peer.management.answers ≡ old.peer.management.answers)
      → (is_over old.peer ≡ true → (result ≡ Emit.Nothing) × (new ≡ old) × (after ≡ before)) → ServesOn plan new (put_all after log)
  emits-serving result true e speaks frames told_kept rests_kept rests =
      let r = rests e in
      subst (λ (x : List ℕ). ServesOn plan new (put_all x log)) (sym r.2) (subst (λ (x : Held). ServesOn plan x (put_all before log)) (sym r.1) s)
  emits-serving result false e speaks frames told_kept rests_kept rests =
      speaks-serves result (frames s.on.fed s.on.rest s.on.journal s.on.given s.on.taken e s.on.stands s.on.framed) told_kept (rests_kept e)
      (speaks s.on.fed s.on.rest s.on.journal s.on.given s.on.taken e s.on.stands)
