-- A message of channel zero that is settled leaves a sender so far.
use Rattle.std.proofs.Common.{◌≡◌, ℕ, zero, suc, ◌-◌, ◌<◌, ◌≤◌, Bool, true, false, ◌||◌, List, [], ◌∷◌, ◌++◌, length, slice_get, Option, Some, refl, ap, ◌∙◌, arith}
use Rattle.std.specs.List.{list_any}
use Rattle.beep_session.specs.beep_frame.specs.declared.kind.Kind.{Kind}
use Rattle.beep_session.specs.beep_frame.specs.Frame.{is_msg, is_ans}
use Rattle.beep_session.specs.beep_history.specs.declared.journal.Side.{Side}
use Rattle.beep_session.specs.beep_history.specs.Journal.{Item, passed}
use Rattle.beep_session.specs.beep_history.specs.Marks.{position_of}
use Rattle.beep_session.specs.beep_mgmt.specs.Form.{Form}
use Rattle.beep_session.specs.beep_mgmt.specs.Message.{message_said}
use Rattle.beep_session.specs.beep_journal.specs.Lives.{lives}
use Rattle.beep_session.specs.beep_journal.specs.Zero.{zero_history, gathered, said_to, has_form, completes_form, events}
use Rattle.beep_session.specs.beep_journal.specs.Log.{Moment}
use Rattle.beep_session.specs.beep_decide.specs.Decide.{PlainStanding, Decision, refuse, choose, tune, grant_close, decide}
use Rattle.beep_session.specs.beep_asked.specs.Kept.{Kept, oldest}
use Rattle.beep_session.specs.beep_asked.proofs.LawsLemmas.{reply-waits}
use Rattle.beep_session.specs.beep_answering.specs.declared.settled.Settled.{Settled}
use Rattle.beep_session.specs.beep_answering.specs.Decided.{kind_of}
use Rattle.beep_session.specs.beep_management.specs.Managed.{Prepared}
use Rattle.beep_session.specs.beep_peer.specs.Calls.{Settles, SettlesReply, SettlesRequest}
use Rattle.beep_session.specs.beep_peer.proofs.WaitingLemmas.{ends-reply}
use Rattle.beep_session.specs.beep_upright.specs.Upright.{IsUpright}
use Rattle.beep_session.specs.Channels.{IsOfPeer}
use Rattle.beep_session.specs.Lawfully.{terms_of}
use Rattle.beep_session.specs.Session.{Held}
use Rattle.beep_desk.specs.beep_talk.specs.Plan.{PlainPlan}
use Rattle.beep_desk.specs.beep_script.specs.Requested.{requests_from}
use Rattle.beep_steps.specs.Logs.{WaitsOn}
use Rattle.beep_steps.specs.Sending.{Progress, Sends, SendsOn, SendsWaiting}
use Rattle.beep_steps.proofs.CallLemmas.{settles-on}
use Rattle.beep_steps.proofs.CallSends.{sender-so, first-none, prepared-none}
use Rattle.beep_steps.proofs.SendsLemmas.{few-lives, item-sends}

-- ---- a reply that is settled

-- a whole reply is no part of many answers
pub form-alone : (kind : Kind) (p : ℕ) (request reply : Option Form) → has_form kind p request reply ≡ true → is_ans kind ≡ false
form-alone Kind.Msg p request reply is = refl
form-alone Kind.Rpy p request reply is = refl
form-alone Kind.Err p request reply is = refl
form-alone Kind.Ans p request reply is = absurd cc
form-alone Kind.Nul p request reply is = refl

pub oldest-there : (requests : List Kept) → 0 < length requests → (one : Kept) × (oldest requests ≡ Some one)
oldest-there requests some = at requests (length requests - 1) (omega (arith, some))
  where
    at : (xs : List Kept) (n : ℕ) → n < length xs → (one : Kept) × (slice_get xs n ≡ Some one)
    at [] n within = absurd (omega (arith, within))
    at (x ∷ xs) zero within = (x, refl)
    at (x ∷ xs) (suc n) within = at xs n (omega (arith, within))

-- a reply that is settled answers one
pub oldest-waits : (session : Held) (log : List Moment) (w : WaitsOn session log) → is_msg w.head.kind ≡ false
    → completes_form Side.Received w.head w.payload (zero_history w.journal) ≡ true
    → (one : Kept) × (oldest session.peer.management.mine.requests ≡ Some one)
oldest-waits session log w reply fits =
    let past = zero_history w.journal in
    let requests = session.peer.management.mine.requests in
    oldest-there requests (reply-waits Side.Received w.head w.payload past
    (ends-reply session.limits.window w.fed w.journal w.given w.taken w.head w.payload session.peer w.waits reply
    (form-alone w.head.kind (position_of Side.Received past w.head) (said_to Side.Received w.head past) (message_said (gathered Side.Received past ++ w.payload)) fits))
    requests w.waits.manages.is.mine)

-- ---- answers ask nothing

pub more-none : (answers : List Prepared) (answer : Prepared) → list_any (λ a. is_msg a.kind) answers ≡ false → is_msg answer.kind ≡ false
    → list_any (λ a. is_msg a.kind) (answers ++ answer ∷ []) ≡ false
more-none [] answer none reply = ap (λ (b : Bool). b || false) reply
more-none (a ∷ answers) answer none reply = both (is_msg a.kind) none (λ rest. more-none answers answer rest reply)
  where
    both : (b : Bool) → (b || list_any (λ c. is_msg c.kind) answers) ≡ false
        → (list_any (λ c. is_msg c.kind) answers ≡ false → list_any (λ c. is_msg c.kind) (answers ++ answer ∷ []) ≡ false) → (b || list_any (λ c. is_msg c.kind) (answers ++ answer ∷ [])) ≡ false
    both true e f = absurd cc
    both false e f = f e

pub answer-kind : (d : Decision) → is_msg (kind_of d) ≡ false
answer-kind (refuse code) = refl
answer-kind (choose place) = refl
answer-kind (tune place content) = refl
answer-kind grant_close = refl

-- ---- a message is settled

module _ (plan : PlainPlan) (p : Progress) (old new : Held) (same : IsOfPeer old new) (log : List Moment) (w : SendsWaiting plan p old log) (settled : Settled) where
  abbrev o : WaitsOn old log
  o = w.on

  abbrev past : List Item
  past = zero_history o.journal

  abbrev now : List Item
  now = passed Side.Received o.head o.payload ∷ o.journal

  abbrev said : Option Form
  said = message_said (gathered Side.Received past ++ o.payload)

  -- the message is settled, and no answer asks anything
  pub record Quietly : Type 0 where
    pub settles : Settles old.limits.window o.fed o.journal o.given o.taken o.head o.payload new.peer
    pub none : list_any (λ a. is_msg a.kind) settles.answers ≡ false

  answers-none : list_any (λ a. is_msg a.kind) old.peer.management.answers ≡ false
  answers-none = prepared-none old.peer.management.answers o.waits.manages.prepared o.waits.manages.is.answers

  pub by-reply : SettlesReply old.limits.window o.fed o.journal o.given o.taken o.head o.payload old.peer.management.answers new.peer → Quietly
  by-reply r = record { settles = r.settles; none = ap (list_any (λ a. is_msg a.kind)) r.joined ∙ answers-none }

  pub by-request : (standing : PlainStanding)
      → SettlesRequest old.limits.window o.fed o.journal o.given o.taken o.head o.payload standing said settled old.peer.management.answers new.peer → Quietly
  by-request standing r = record {
    settles = r.settles;
    none = ap (list_any (λ a. is_msg a.kind)) r.joined
        ∙ more-none old.peer.management.answers r.answer answers-none (ap is_msg r.kind ∙ answer-kind (decide standing said));
  }

  abbrev pub settled-sends : Quietly → IsUpright (terms_of old) now new.peer.lives new.peer.management
      → (is_msg o.head.kind ≡ false → completes_form Side.Received o.head o.payload past ≡ true) → SendsOn plan p new log
  settled-sends q upright fits = record {
    sender = sender-so plan old new same w.sender;
    on = settles-on old new same log o q.settles upright fits;
    sends = sends;
  }
    where
      asked : requests_from [] (q.settles.given_now 0) ≡ requests_from [] (o.given 0)
      asked = first-none o.given q.settles.given_now q.settles.answers new.peer q.none o.waits.manages.is.spoken_is.whole q.settles.gives

      few : lives 1 (events now) ≤ 1
      few =
          few-lives plan.raw_uri w.sender.texts (terms_of old) w.sender.role now q.settles.given_now q.settles.taken_now new.peer.lives q.settles.stands.holds.live p.asked
          (asked ∙ w.sends.asked) o.lawful

      sends : Sends plan p now q.settles.given_now
      sends =
          item-sends plan p (passed Side.Received o.head o.payload) o.journal o.given q.settles.given_now w.sends tt
          (record { asked = asked; same = q.settles.given_is.same 1 refl; fresh = q.settles.given_is.fresh 1 }) few

  pub settles-sending : (standing : PlainStanding)
      → (is_msg o.head.kind ≡ true → SettlesRequest old.limits.window o.fed o.journal o.given o.taken o.head o.payload standing said settled old.peer.management.answers new.peer)
      → (is_msg o.head.kind ≡ false → SettlesReply old.limits.window o.fed o.journal o.given o.taken o.head o.payload old.peer.management.answers new.peer)
      → IsUpright (terms_of old) now new.peer.lives new.peer.management
      → (is_msg o.head.kind ≡ false → completes_form Side.Received o.head o.payload past ≡ true) → SendsOn plan p new log
  settles-sending standing request reply upright fits = of (is_msg o.head.kind) refl
    where
      of : (b : Bool) → is_msg o.head.kind ≡ b → SendsOn plan p new log
      of true is = settled-sends (by-request standing (request is)) upright fits
      of false is = settled-sends (by-reply (reply is)) upright fits
