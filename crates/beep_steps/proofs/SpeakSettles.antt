-- A message of channel zero that is settled leaves a listener one that keeps its script: it notes a close of 0 by the peer, and begins and ends no life.
use Rattle.std.proofs.Common.{◌≡◌, ℕ, ◌==◌, Bool, true, false, not, ◌&&◌, ◌||◌, if◌then◌else◌, List, [], ◌∷◌, ◌++◌, length, Option, None, Some, refl, sym, ap, ◌∙◌, subst}
use Rattle.std.specs.Prelude.{is_some}
use Rattle.std.specs.List.{list_any}
use Rattle.beep_session.specs.beep_frame.specs.declared.head.Head.{Head}
use Rattle.beep_session.specs.beep_frame.specs.declared.kind.Kind.{Kind}
use Rattle.beep_session.specs.beep_frame.specs.Frame.{is_msg, same_kind}
use Rattle.beep_session.specs.beep_history.specs.declared.journal.Side.{Side}
use Rattle.beep_session.specs.beep_history.specs.Journal.{Item, passed}
use Rattle.beep_session.specs.beep_history.specs.Marks.{position_of}
use Rattle.beep_session.specs.beep_mgmt.specs.Form.{Form, PlainProfile, greeting, start, chosen, close, okay, fault}
use Rattle.beep_session.specs.beep_mgmt.specs.Message.{message_said}
use Rattle.beep_session.specs.beep_journal.specs.Lives.{Event, is_live}
use Rattle.beep_session.specs.beep_journal.specs.Zero.{zero_history, zero_events, gathered, asked, said_at, said_to, coming, granting, completes_form, events}
use Rattle.beep_session.specs.beep_journal.specs.Life.{is_there}
use Rattle.beep_session.specs.beep_journal.specs.Log.{Moment}
use Rattle.beep_session.specs.beep_journal.proofs.MomentLemmas.{equal-number}
use Rattle.beep_session.specs.beep_decide.specs.Asks.{is_close_of}
use Rattle.beep_session.specs.beep_decide.specs.Decide.{PlainStanding, Decision, refuse, choose, tune, grant_close, decide, decide_start, is_among}
use Rattle.beep_session.specs.beep_asked.specs.Kept.{Kept, is_leaving, oldest}
use Rattle.beep_session.specs.beep_asked.specs.Asked.{EndsReply}
use Rattle.beep_session.specs.beep_asked.proofs.LawsLemmas.{reply-waits}
use Rattle.beep_session.specs.beep_answering.specs.declared.settled.Settled.{Settled}
use Rattle.beep_session.specs.beep_answering.specs.Decided.{SettledBy, IsSettledAs, IsBegunBy, IsClosedBy, refused_as}
use Rattle.beep_session.specs.beep_management.specs.declared.wait.Wait.{Wait}
use Rattle.beep_session.specs.beep_peer.specs.Calls.{Settles, SettlesReply, SettlesRequest}
use Rattle.beep_session.specs.beep_peer.specs.Standing.{standing_of}
use Rattle.beep_session.specs.beep_peer.proofs.WaitingLemmas.{ends-reply}
use Rattle.beep_session.specs.beep_upright.specs.Upright.{IsUpright}
use Rattle.beep_session.specs.Channels.{IsOfPeer}
use Rattle.beep_session.specs.Lawfully.{terms_of}
use Rattle.beep_session.specs.Session.{Held}
use Rattle.beep_desk.specs.beep_talk.specs.Plan.{PlainPlan}
use Rattle.beep_desk.specs.beep_talk.specs.Talk.{has_peer_release}
use Rattle.beep_served.specs.Served.{IsServing}
use Rattle.beep_served.proofs.ProfileLemmas.{serving-then}
use Rattle.beep_steps.specs.Logs.{WaitsOn}
use Rattle.beep_steps.specs.Serving.{ShowsServing}
use Rattle.beep_steps.specs.Speaking.{Notes, closes_all, noted_by, SpeaksOn, SpeaksWaiting}
use Rattle.beep_steps.proofs.CallLemmas.{settles-on}
use Rattle.beep_steps.proofs.SettleSends.{form-alone, oldest-there}
use Rattle.beep_steps.proofs.SpeakLemmas.{came-release, asked-release, waiting-asked}
use Rattle.beep_steps.proofs.SpeakSteps.{came-said, frame-passing}
use Rattle.beep_steps.proofs.SpeakCalls.{scripts-on, serving-at}
use Rattle.beep_steps.proofs.SpeakStanding.{closing-leaves}

-- ---- lives

said-none : (p : ℕ) (forms : List (Option Form)) → list_any is_some forms ≡ false → said_at p forms ≡ None
said-none p [] none = refl
said-none p (Some form ∷ forms) none = absurd (let g : true ≡ false = none in cc)
said-none p (None ∷ forms) none = of (length forms == p) (said-none p forms none)
  where
    of : (b : Bool) → said_at p forms ≡ None → (if b then None else said_at p forms) ≡ None
    of true rest = refl
    of false rest = rest

coming-live : (n : ℕ) (by : Side) (p : ℕ) (form : Option Form) (es : List Event) → is_live n (coming by p form ++ es) ≡ is_live n es
coming-live n by p None es = refl
coming-live n by p (Some (greeting features localize profiles)) es = refl
coming-live n by p (Some (start number server profiles)) es = refl
coming-live n by p (Some (chosen profile)) es = refl
coming-live n by p (Some (close number code note)) es = refl
coming-live n by p (Some okay) es = refl
coming-live n by p (Some (fault code note)) es = refl

-- what comes to an end that asked nothing begins and ends no life
pub came-there : (n : ℕ) (head : Head) (payload : List ℕ) (journal : List Item) → list_any is_some (asked Side.Sent (zero_history journal)) ≡ false
    → is_there n (passed Side.Received head payload ∷ journal) ≡ is_there n journal
came-there n head payload journal none = ap (λ (b : Bool). n == 0 || b) (of (head.channel == 0))
  where
    begun : List Item
    begun = zero_history journal

    by : (m k g : Bool) → is_live n ((if m then [] else (if k then coming Side.Received (length (asked Side.Received begun)) (message_said (gathered Side.Received begun ++ payload))
        else (if g then granting Side.Sent (position_of Side.Received begun head) (said_to Side.Received head begun) else []))) ++ events journal) ≡ is_live n (events journal)
    by true k g = refl
    by false true g = coming-live n Side.Received (length (asked Side.Received begun)) (message_said (gathered Side.Received begun ++ payload)) (events journal)
    by false false true = ap (λ (form : Option Form). is_live n (granting Side.Sent (position_of Side.Received begun head) form ++ events journal))
        (said-none (position_of Side.Received begun head) (asked Side.Sent begun) none)
    by false false false = refl

    of : (b : Bool) → is_live n (zero_events (if b then passed Side.Received head payload ∷ begun else begun)) ≡ is_live n (events journal)
    of true = by head.more (is_msg head.kind) (same_kind Kind.Rpy head.kind && completes_form Side.Received head payload begun)
    of false = refl

-- ---- what a request is settled as

started-none : (d : Decision) (number : ℕ) (server : Option (List ℕ)) (listed : List PlainProfile) (settled : Settled) (waits : Wait) → SettledBy d (Some (start number server listed)) settled waits → closes_all settled ≡ false
started-none (refuse code) number server listed settled waits b = ap closes_all b.0
started-none (choose place) number server listed settled waits b = ap closes_all b.0
started-none (tune place content) number server listed settled waits b = absurd b
started-none grant_close number server listed settled waits b = absurd b

module _ (standing : PlainStanding) (left : Bool) (settled : Settled) (waits : Wait) where
  refused-same : (code : ℕ) → settled ≡ Settled.PeerRefused code → left ≡ (closes_all settled || left)
  refused-same code is = ap (λ (b : Bool). b || left) (sym (ap closes_all is))

  closed-so : (number code : ℕ) (note : List ℕ) → (is_among 0 standing.closing ≡ true → left ≡ true) → (t : Bool)
      → ((number == 0 || is_among number standing.live) && not (is_among number standing.closing)) ≡ t
      → SettledBy (if t then grant_close else refuse 550) (Some (close number code note)) settled waits → (number == 0 || left) ≡ (closes_all settled || left)
  closed-so number code note leaves true test b = ap (λ (x : Bool). x || left) (sym (ap closes_all b.0))
  closed-so number code note leaves false test b = of (number == 0) refl ∙ refused-same 550 b.0
    where
      closing : (z l c : Bool) → z ≡ true → ((z || l) && not c) ≡ false → c ≡ true
      closing true l true e f = refl
      closing true l false e f = absurd (let g : true ≡ false = f in cc)
      closing false l c e f = absurd (let g : false ≡ true = e in cc)

      of : (z : Bool) → (number == 0) ≡ z → (z || left) ≡ left
      of false e = refl
      of true e =
          let here : is_among number standing.closing ≡ true = closing (number == 0) (is_among number standing.live) (is_among number standing.closing) e test in
          sym (leaves (subst (λ (k : ℕ). is_among k standing.closing ≡ true) (equal-number number 0 e) here))

  -- a close of 0 that comes is noted, or was
  pub request-closes : (said : Option Form) → (is_among 0 standing.closing ≡ true → left ≡ true) → SettledBy (decide standing said) said settled waits
      → (is_close_of 0 said || left) ≡ (closes_all settled || left)
  request-closes None leaves b = refused-same 500 b.0
  request-closes (Some (greeting features localize profiles)) leaves b = refused-same 500 b.0
  request-closes (Some (start number server listed)) leaves b = ap (λ (x : Bool). x || left) (sym (started-none (decide_start standing number listed) number server listed settled waits b))
  request-closes (Some (chosen profile)) leaves b = refused-same 500 b.0
  request-closes (Some (close number code note)) leaves b =
      closed-so number code note leaves ((number == 0 || is_among number standing.live) && not (is_among number standing.closing)) refl b
  request-closes (Some okay) leaves b = refused-same 500 b.0
  request-closes (Some (fault code note)) leaves b = refused-same 500 b.0

-- ---- what a reply is settled as

-- it notes nothing of the peer's requests
abbrev pub says_none : Settled → Bool
says_none Settled.Greeted = true
says_none (Settled.Denied code) = true
says_none (Settled.Begun number at content) = true
says_none (Settled.NotBegun number code) = true
says_none (Settled.PeerStarts number place) = false
says_none (Settled.PeerRefused code) = false
says_none (Settled.PeerCloses number code) = false
says_none (Settled.Closed number) = true
says_none (Settled.NotClosed number code) = true
says_none (Settled.Stale code) = true
says_none Settled.Released = true

begun-says : (asked : Option Form) (profile : PlainProfile) (settled : Settled) → IsBegunBy asked profile settled → says_none settled ≡ true
begun-says None profile settled b = absurd b
begun-says (Some (greeting features localize profiles)) profile settled b = absurd b
begun-says (Some (start number server listed)) profile settled b = ap says_none b.is
begun-says (Some (chosen other)) profile settled b = absurd b
begun-says (Some (close number code note)) profile settled b = absurd b
begun-says (Some okay) profile settled b = absurd b
begun-says (Some (fault code note)) profile settled b = absurd b

refused-says : (code : ℕ) (asked : Option Form) (names : Bool) → says_none (refused_as code asked names) ≡ true
refused-says code None names = refl
refused-says code (Some (greeting features localize profiles)) names = refl
refused-says code (Some (start number server listed)) names = refl
refused-says code (Some (chosen profile)) names = refl
refused-says code (Some (close number reason note)) names = of (number == 0 || names)
  where
    of : (b : Bool) → says_none (if b then Settled.NotClosed number code else Settled.Stale (Some code)) ≡ true
    of true = refl
    of false = refl
refused-says code (Some okay) names = refl
refused-says code (Some (fault reason note)) names = refl

closed-says : (asked : Option Form) (names : Bool) (settled : Settled) → IsClosedBy asked names settled → says_none settled ≡ true
closed-says None names settled b = absurd b
closed-says (Some (greeting features localize profiles)) names settled b = absurd b
closed-says (Some (start number server listed)) names settled b = absurd b
closed-says (Some (chosen profile)) names settled b = absurd b
closed-says (Some (close number code note)) names settled b = ap says_none b ∙ of (number == 0) names
  where
    of : (z n : Bool) → says_none (if z then Settled.Released else if n then Settled.Closed number else Settled.Stale None) ≡ true
    of true n = refl
    of false true = refl
    of false false = refl
closed-says (Some okay) names settled b = absurd b
closed-says (Some (fault code note)) names settled b = absurd b

reply-says : (kept : Kept) (reply : Option Form) (settled : Settled) → IsSettledAs kept reply settled → says_none settled ≡ true
reply-says kept None settled b = absurd b
reply-says kept (Some (greeting features localize profiles)) settled b = ap says_none b
reply-says kept (Some (start number server listed)) settled b = absurd b
reply-says kept (Some (chosen profile)) settled b = begun-says kept.said profile settled b
reply-says kept (Some (close number code note)) settled b = absurd b
reply-says kept (Some okay) settled b = closed-says kept.said kept.names settled b
reply-says kept (Some (fault code note)) settled b = ap says_none b ∙ refused-says code kept.said kept.names

says-open : (settled : Settled) → says_none settled ≡ true → closes_all settled ≡ false
says-open Settled.Greeted e = refl
says-open (Settled.Denied code) e = refl
says-open (Settled.Begun number at content) e = refl
says-open (Settled.NotBegun number code) e = refl
says-open (Settled.PeerStarts number place) e = refl
says-open (Settled.PeerRefused code) e = refl
says-open (Settled.PeerCloses number code) e = absurd (let g : false ≡ true = e in cc)
says-open (Settled.Closed number) e = refl
says-open (Settled.NotClosed number code) e = refl
says-open (Settled.Stale code) e = refl
says-open Settled.Released e = refl

-- ---- it is settled

module _ (plan : PlainPlan) (notes : Notes) (old new : Held) (same : IsOfPeer old new) (log : List Moment) (w : SpeaksWaiting plan notes old log) (settled : Settled) where
  abbrev o : WaitsOn old log
  o = w.on

  abbrev past : List Item
  past = zero_history o.journal

  abbrev now : List Item
  now = passed Side.Received o.head o.payload ∷ o.journal

  abbrev said : Option Form
  said = message_said (gathered Side.Received past ++ o.payload)

  -- a close of 0 that waits has come
  waits-left : is_leaving old.peer.management.theirs.requests ≡ true → notes.leaving ≡ true
  waits-left is =
      sym w.scripts.leaving
      ∙ asked-release past (waiting-asked (zero_events past) old.peer.management.theirs.requests (asked Side.Received past) o.waits.manages.is.theirs.asked is)

  comes : (b : Bool) → is_msg o.head.kind ≡ b → has_peer_release (events now) ≡ ((b && is_close_of 0 said) || notes.leaving)
  comes b is =
      came-release o.head o.payload o.journal o.waits.waits.zero_is
      ∙ ap (λ (m : Bool). ((not m && is_msg o.head.kind) && is_close_of 0 said) || has_peer_release (events o.journal)) o.waits.waits.last
      ∙ ap (λ (k : Bool). (k && is_close_of 0 said) || has_peer_release (events o.journal)) is ∙ ap (λ (l : Bool). (b && is_close_of 0 said) || l) w.scripts.leaving

  some-own : is_msg o.head.kind ≡ false → completes_form Side.Received o.head o.payload past ≡ true → (one : Kept) × (oldest old.peer.management.mine.requests ≡ Some one)
  some-own reply fits =
      let ends : EndsReply Side.Received o.head past =
      ends-reply old.limits.window o.fed o.journal o.given o.taken o.head o.payload old.peer o.waits reply
      (form-alone o.head.kind (position_of Side.Received past o.head) (said_to Side.Received o.head past) said fits) in
      oldest-there old.peer.management.mine.requests (reply-waits Side.Received o.head o.payload past ends old.peer.management.mine.requests o.waits.manages.is.mine)

  settled-speaking : (m : Settles old.limits.window o.fed o.journal o.given o.taken o.head o.payload new.peer) → IsUpright (terms_of old) now new.peer.lives new.peer.management
      → (is_msg o.head.kind ≡ false → completes_form Side.Received o.head o.payload past ≡ true) → ShowsServing plan log
      → has_peer_release (events now) ≡ (closes_all settled || notes.leaving) → SpeaksOn plan (noted_by settled notes) new log
  settled-speaking m upright fits shows flag =
      let serving : IsServing plan.raw_uri o.journal = serving-then plan.raw_uri (passed Side.Received o.head o.payload ∷ []) o.journal (serving-at plan new log shows (settles-on old new same log o m upright fits)) in
      let there : (n : ℕ) → is_there n now ≡ is_there n o.journal = λ n. came-there n o.head o.payload o.journal serving.no_request in
      record {
        listens = w.listens;
        on = settles-on old new same log o m upright fits;
        scripts = scripts-on plan notes o.journal now o.given m.given_now (frame-passing plan Side.Received o.head o.payload o.journal) m.given_is w.scripts w.noted (closes_all settled || notes.leaving) flag
            (came-said plan o.head o.payload o.journal w.scripts.keeps);
        noted = record {
          spoken = λ n above among. there n ∙ w.noted.spoken n above among;
          all = λ n above is. w.noted.all n above (sym (there n) ∙ is);
        };
      }

  module _ (standing : PlainStanding) (standing-is : standing ≡ standing_of old.role old.offers old.peer)
      (request : is_msg o.head.kind ≡ true → SettlesRequest old.limits.window o.fed o.journal o.given o.taken o.head o.payload standing said settled old.peer.management.answers new.peer)
      (reply : is_msg o.head.kind ≡ false → SettlesReply old.limits.window o.fed o.journal o.given o.taken o.head o.payload old.peer.management.answers new.peer)
      (replied : is_msg o.head.kind ≡ false → (one : Kept) → oldest old.peer.management.mine.requests ≡ Some one → IsSettledAs one said settled)
      (fits : is_msg o.head.kind ≡ false → completes_form Side.Received o.head o.payload past ≡ true) where
    noted-then : is_among 0 standing.closing ≡ true → notes.leaving ≡ true
    noted-then among = waits-left (closing-leaves old.peer (subst (λ (s : PlainStanding). is_among 0 s.closing ≡ true) standing-is among))

    says-no : is_msg o.head.kind ≡ false → says_none settled ≡ true
    says-no is = let one = some-own is (fits is) in reply-says one.0 said settled (replied is one.0 one.1)

    pub settles-speaking : IsUpright (terms_of old) now new.peer.lives new.peer.management → ShowsServing plan log → SpeaksOn plan (noted_by settled notes) new log
    settles-speaking upright shows = of (is_msg o.head.kind) refl
      where
        of : (b : Bool) → is_msg o.head.kind ≡ b → SpeaksOn plan (noted_by settled notes) new log
        of true is =
            let r = request is in
            settled-speaking r.settles upright fits shows (comes true is ∙ request-closes standing notes.leaving settled r.answer.waits said noted-then r.by)
        of false is =
            settled-speaking (reply is).settles upright fits shows (comes false is ∙ ap (λ (b : Bool). b || notes.leaving) (sym (says-open settled (says-no is))))
