-- What each answer of a session leaves of a listener that keeps its script on channel zero.
use Rattle.std.proofs.Common.{◌≡◌, ◌∙◌, refl, sym, ap, subst, ℕ, Bool, true, false, List, ◌∷◌, ◌++◌, Option, None, Some}
use Rattle.std.specs.Prelude.{IfNone, IfSome}
use Rattle.beep_session.specs.beep_frame.specs.declared.head.Head.{Head}
use Rattle.beep_session.specs.beep_frame.specs.declared.seq.Seq.{Seq}
use Rattle.beep_session.specs.beep_frame.specs.Frame.{is_msg}
use Rattle.beep_session.specs.beep_history.specs.declared.journal.Side.{Side}
use Rattle.beep_session.specs.beep_history.specs.Journal.{Item, passed}
use Rattle.beep_session.specs.beep_mgmt.specs.Message.{message_said}
use Rattle.beep_session.specs.beep_journal.specs.Log.{Moment, got_all, put_all}
use Rattle.beep_session.specs.beep_journal.specs.Zero.{completes_form, gathered, zero_history}
use Rattle.beep_session.specs.beep_inbox.specs.declared.part.Part.{Part}
use Rattle.beep_session.specs.beep_standing.specs.Standing.{Marks}
use Rattle.beep_session.specs.beep_answering.specs.declared.settled.Settled.{Settled}
use Rattle.beep_session.specs.beep_speaking.specs.declared.emit.Emit.{Emit}
use Rattle.beep_session.specs.beep_upright.specs.Frames.{AreFrames, IsFramed}
use Rattle.beep_session.specs.beep_upright.specs.Upright.{IsUpright}
use Rattle.beep_session.specs.beep_peer.specs.declared.peer.Peer.{Peer}
use Rattle.beep_session.specs.beep_peer.specs.Calls.{SettlesReply, SettlesRequest, Speaks}
use Rattle.beep_session.specs.beep_peer.specs.Lawfully.{SpeaksLawfully}
use Rattle.beep_session.specs.beep_peer.specs.Peering.{IsPeer, is_over}
use Rattle.beep_session.specs.beep_peer.specs.Standing.{standing_of}
use Rattle.beep_session.specs.beep_peer.specs.Waiting.{IsStuck}
use Rattle.beep_session.specs.declared.event.Event.{Event}
use Rattle.beep_session.specs.Channels.{IsOfPeer, Takes}
use Rattle.beep_session.specs.Lawfully.{terms_of, FeedsLawfully, IsLawfulSession, KeepsUpright}
use Rattle.beep_session.specs.Session.{Held}
use Rattle.beep_desk.specs.beep_talk.specs.Plan.{PlainPlan}
use Rattle.beep_served.specs.Served.{HaveProfile}
use Rattle.beep_served.proofs.ProfileLemmas.{have-profile}
use Rattle.beep_steps.specs.Desking.{DesksOn, DesksWaiting, DesksWithin, SaidDesk}
use Rattle.beep_steps.specs.Logs.{AreTaken, WaitsOn}
use Rattle.beep_steps.specs.Serving.{ShowsServing}
use Rattle.beep_steps.specs.Speaking.{AllSpoken, Notes, SpeaksGone, SpeaksOn, noted_by}
use Rattle.beep_steps.specs.Steps.{CameFrame, CameMore}
use Rattle.beep_steps.proofs.DeskCalls.{frame-desk, more-desk, told-desk, zero-desk}
use Rattle.beep_steps.proofs.DeskDone.{reply-closes, request-closes, sent-on, takes-on}
use Rattle.beep_steps.proofs.SpeakCalls.{serving-at, takes-speaking}

-- ---- what comes

-- what an event leaves
abbrev pub HeardDesk : PlainPlan → Event → Held → List Moment → Type 0
HeardDesk plan Event.More new log = DesksOn plan new log
HeardDesk plan (Event.Arrived number) new log = DesksWithin plan new log
HeardDesk plan Event.Zero new log = DesksWaiting plan new log
HeardDesk plan Event.Released new log = Unit {0}
HeardDesk plan (Event.Broken rule place) new log = Unit {0}
HeardDesk plan Event.NoMemory new log = Unit {0}

-- which frame came
abbrev pub FrameCame : Event → Held → Held → List Item → List Moment → Type 0
FrameCame Event.More old new journal log = CameMore old new journal log
FrameCame (Event.Arrived number) old new journal log = CameFrame number old new journal log
FrameCame Event.Zero old new journal log = Unit {0}
FrameCame Event.Released old new journal log = Unit {0}
FrameCame (Event.Broken rule place) old new journal log = Unit {0}
FrameCame Event.NoMemory old new journal log = Unit {0}

module _ (plan : PlainPlan) (octets : List ℕ) (old new : Held) (log : List Moment) (same : IsOfPeer old new) (d : DesksOn plan old log)
    (kept : new.peer.management ≡ old.peer.management) (stuck : IsStuck old.peer.lives old.peer.management → IsStuck new.peer.lives new.peer.management) where
  fed-desk : old.peer.released ≡ false → (event : Event) → new.peer.released ≡ old.peer.released
      → FeedsLawfully event (terms_of old) octets d.on.fed d.on.journal d.on.given d.on.taken new.peer → FrameCame event old new d.on.journal (got_all octets log)
      → HeardDesk plan event new (got_all octets log)
  fed-desk going Event.More released g c = more-desk plan octets old new log same d going kept stuck g c
  fed-desk going (Event.Arrived number) released g c = frame-desk plan octets old new log same d going kept stuck number g c
  fed-desk going Event.Zero released g c = zero-desk plan octets old new log same d going kept stuck released g
  fed-desk going Event.Released released g c = tt
  fed-desk going (Event.Broken rule place) released g c = tt
  fed-desk going Event.NoMemory released g c = tt

  pub hears-desk : (event : Event) (released : Bool) → old.peer.released ≡ released → new.peer.released ≡ old.peer.released
      → ((fed rest : List ℕ) (journal : List Item) (given taken : Marks) → old.peer.released ≡ false → IsLawfulSession old fed rest journal given taken
      → FeedsLawfully event (terms_of old) octets fed journal given taken new.peer)
      → (old.peer.released ≡ true → event ≡ Event.Released) → FrameCame event old new d.on.journal (got_all octets log) → HeardDesk plan event new (got_all octets log)
  hears-desk event true e same_released lawful rests came = subst (λ (x : Event). HeardDesk plan x new (got_all octets log)) (sym (rests e)) tt
  hears-desk event false e same_released lawful rests came =
      fed-desk e event same_released (lawful d.on.fed d.on.rest d.on.journal d.on.given d.on.taken e d.on.stands) came

-- ---- what goes out

module _ (plan : PlainPlan) (notes : Notes) (old new : Held) (before after : List ℕ) (log : List Moment) (d : DesksOn plan old (put_all before log)) (same : IsOfPeer old new) where
  -- nothing did
  rests-desk : new ≡ old → after ≡ before → DesksOn plan new (put_all after log)
  rests-desk is none =
      subst (λ (x : List ℕ). DesksOn plan new (put_all x log)) (sym none) (subst (λ (x : Held). DesksOn plan x (put_all before log)) (sym is) d)

  module _ (still : IsStuck old.peer.lives old.peer.management → IsStuck new.peer.lives new.peer.management) (gone : SpeaksGone plan notes new (put_all after log))
      (have : HaveProfile plan.raw_uri gone.on.journal) (spoken : AllSpoken notes d.on.journal) (most : ℕ) where
    speaks-desk : (result : Emit) → IsFramed result → SpeaksLawfully result (terms_of old) d.on.fed d.on.rest d.on.journal d.on.given d.on.taken old.peer new.peer before after
        → Speaks result old.limits.window most d.on.fed d.on.rest d.on.journal d.on.given d.on.taken old.peer new.peer before after
        → ((seq : Seq) → result ≡ Emit.Seq seq → (new.peer.management ≡ old.peer.management) × (new.peer.released ≡ old.peer.released))
        → ((head : Head) → result ≡ Emit.Data head → IsStuck new.peer.lives new.peer.management) → SaidDesk plan result new (put_all after log)
    speaks-desk (Emit.Seq seq) is m says told stuck = told-desk plan old new before after log d same seq is m.0 m.1 (told seq refl).0 still
    speaks-desk (Emit.Data head) is m says told stuck = sent-on plan notes old new before after log d same head is m (stuck head refl) gone have spoken
    speaks-desk Emit.Nothing is m says told stuck =
        rests-desk (same ∙ ap (λ (p : Peer). record old { peer = p }) says.0) m.0

    pub emits-desk : (result : Emit) (over : Bool) → is_over old.peer ≡ over
        → ((fed rest : List ℕ) (journal : List Item) (given taken : Marks) → is_over old.peer ≡ false → IsLawfulSession old fed rest journal given taken
        → SpeaksLawfully result (terms_of old) fed rest journal given taken old.peer new.peer before after)
        → ((fed rest : List ℕ) (journal : List Item) (given taken : Marks) → is_over old.peer ≡ false → IsLawfulSession old fed rest journal given taken → AreFrames journal
        → IsFramed result)
        → ((fed rest : List ℕ) (journal : List Item) (given taken : Marks) → is_over old.peer ≡ false → IsPeer old.limits.window fed rest journal given taken old.peer
        → Speaks result old.limits.window most fed rest journal given taken old.peer new.peer before after)
        → ((seq : Seq) → result ≡ Emit.Seq seq → (new.peer.management ≡ old.peer.management) × (new.peer.released ≡ old.peer.released))
        → ((head : Head) → result ≡ Emit.Data head → IsStuck new.peer.lives new.peer.management)
        → (is_over old.peer ≡ true → (result ≡ Emit.Nothing) × (new ≡ old) × (after ≡ before)) → SaidDesk plan result new (put_all after log)
    emits-desk result true e lawful frames speaks told stuck rests =
        let r = rests e in subst (λ (x : Emit). SaidDesk plan x new (put_all after log)) (sym r.0) (rests-desk r.1 r.2)
    emits-desk result false e lawful frames speaks told stuck rests =
        let on = d.on in
        speaks-desk result (frames on.fed on.rest on.journal on.given on.taken e on.stands on.framed) (lawful on.fed on.rest on.journal on.given on.taken e on.stands)
        (speaks on.fed on.rest on.journal on.given on.taken e on.stands.stands) told stuck

-- ---- a message of channel zero that is settled

module _ (plan : PlainPlan) (notes : Notes) (old new : Held) (same : IsOfPeer old new) (log : List Moment) (d : DesksWaiting plan old log) (settled : Settled)
    (s : SpeaksOn plan (noted_by settled notes) new log) (taken : AreTaken new) (serving : ShowsServing plan log) where
  abbrev o : WaitsOn old log
  o = d.on

  abbrev next : List Item
  next = passed Side.Received o.head o.payload ∷ o.journal

  module _ (request : is_msg o.head.kind ≡ true
      → SettlesRequest old.limits.window o.fed o.journal o.given o.taken o.head o.payload (standing_of old.role old.offers old.peer)
      (message_said (gathered Side.Received (zero_history o.journal) ++ o.payload)) settled old.peer.management.answers new.peer)
      (reply : is_msg o.head.kind ≡ false → SettlesReply old.limits.window o.fed o.journal o.given o.taken o.head o.payload old.peer.management.answers new.peer)
      (fits : is_msg o.head.kind ≡ false → completes_form Side.Received o.head o.payload (zero_history o.journal) ≡ true)
      (upright : IsUpright (terms_of old) next new.peer.lives new.peer.management) (stuck : IsStuck new.peer.lives new.peer.management) where
    have : HaveProfile plan.raw_uri s.on.journal
    have = have-profile plan.raw_uri s.on.journal (serving-at plan new log serving s.on)

    pub settles-desk : DesksOn plan new log
    settles-desk = of (is_msg o.head.kind) refl
      where
        of : (b : Bool) → is_msg o.head.kind ≡ b → DesksOn plan new log
        of true is =
            let r = request is in
            request-closes plan (noted_by settled notes) old new same log d s taken have upright fits stuck settled r is
        of false is =
            let r = reply is in
            reply-closes plan (noted_by settled notes) old new same log d s taken have upright fits stuck r is

-- ---- a part that is taken

pub took-desk : (plan : PlainPlan) (notes : Notes) (result : Option Part) (number : ℕ) (octets : List ℕ) (old mid new : Held) → mid ≡ old
    → IfSome result (λ part. Takes number part octets mid new) → IfSome result (λ part. IsStuck new.peer.lives new.peer.management) → KeepsUpright mid new → IfNone result (new ≡ mid)
    → (log : List Moment) → ShowsServing plan log → SpeaksOn plan notes old log → DesksWithin plan old log → DesksWithin plan new log
took-desk plan notes None number octets old mid new same some stuck upright none log serving s d =
    subst (λ (x : Held). DesksWithin plan x log) (sym (none ∙ same)) d
took-desk plan notes (Some part) number octets old mid new same some stuck upright none log serving s d =
    let after : SpeaksOn plan notes new log = takes-speaking plan notes mid new number part octets some upright log (subst (λ (x : Held). SpeaksOn plan notes x log) (sym same) s) in
    takes-on plan notes number part octets mid new some upright stuck log (subst (λ (x : Held). DesksWithin plan x log) (sym same) d) after
    (have-profile plan.raw_uri after.on.journal (serving-at plan new log serving after.on))
