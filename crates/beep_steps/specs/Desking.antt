-- What an end keeps of its script on channel zero: what it gave there is what its script lists,
-- and the answers that it prepared are those that the script owes (RFC 3080, section 2.3.1).
-- The code keeps no list: it prepares an answer as its request is settled, and lets it go as what
-- it waits for comes.
use Rattle.std.specs.Prelude.{◌≡◌, ◌⊎◌, ◌≤◌, ℕ, ◌==◌, Bool, true, false, not, ◌&&◌, ◌||◌, List, [], ◌∷◌, None, Some, map}
use Rattle.beep_session.specs.beep_frame.specs.declared.head.Head.{Head}
use Rattle.beep_session.specs.beep_frame.specs.declared.kind.Kind.{Kind}
use Rattle.beep_session.specs.beep_frame.specs.Frame.{is_nul, same_kind}
use Rattle.beep_session.specs.beep_history.specs.declared.journal.Side.{Side}
use Rattle.beep_session.specs.beep_history.specs.Journal.{Item, began, passed}
use Rattle.beep_session.specs.beep_history.specs.Marks.{is_answered, marks, mark_modulo_2_64, previous}
use Rattle.beep_session.specs.beep_history.specs.Broken.{under_way}
use Rattle.beep_session.specs.beep_journal.specs.Broken.{is_greeting, none_tunes}
use Rattle.beep_session.specs.beep_journal.specs.Journal.{Past, Shows}
use Rattle.beep_session.specs.beep_journal.specs.Log.{Moment}
use Rattle.beep_session.specs.beep_journal.specs.Life.{is_released}
use Rattle.beep_session.specs.beep_journal.specs.Zero.{asked, zero_history}
use Rattle.beep_session.specs.beep_mgmt.specs.Message.{message_said, message_text}
use Rattle.beep_session.specs.beep_decide.specs.Decide.{PlainOffer}
use Rattle.beep_session.specs.beep_answering.specs.Decided.{NoneTunes}
use Rattle.beep_session.specs.beep_answering.specs.declared.settled.Settled.{Settled}
use Rattle.beep_desk.specs.beep_script.specs.Desk.{asks, ends_lines, grants_own}
use Rattle.beep_desk.specs.beep_talk.specs.AtZero.{zero_message}
use Rattle.beep_session.specs.beep_mgmt.specs.Form.{close}
use Rattle.beep_steps.specs.Sending.{Progress}
use Rattle.beep_session.specs.beep_answering.specs.Sent.{greeting_of}
use Rattle.beep_session.specs.beep_peer.specs.Waiting.{IsStuck}
use Rattle.beep_session.specs.Session.{Held}
use Rattle.beep_session.specs.beep_speaking.specs.declared.emit.Emit.{Emit}
use Rattle.beep_desk.specs.beep_talk.specs.Plan.{PlainPlan}
use Rattle.beep_desk.specs.beep_script.specs.Script.{BeginsWith, script_marks}
use Rattle.beep_desk.specs.Desks.{IsDeskOf, IsDeskWithin}
use Rattle.beep_desk.specs.Listed.{AskInTurn}
use Rattle.beep_steps.specs.Logs.{StandsOn, WaitsOn}
use Rattle.beep_steps.specs.declared.hearing.Came.{Came}

-- ---- greetings

-- the greeting of an end with these offers is read as what it says
abbrev pub IsGreetingRead : List PlainOffer → Type 0
IsGreetingRead offers =
    message_said (message_text (greeting_of offers)) ≡ Some (greeting_of offers)

-- a reply of this kind is one message
abbrev pub is_single : Kind → Bool
is_single kind = same_kind Kind.Rpy kind || same_kind Kind.Err kind

-- no frame of the peer has passed, and one that is under way is its greeting
pub record IsGreetingDue (journal : List Item) : Type 0 where
  pub none : previous Side.Received journal ≡ None
  pub under : (head : Head) → under_way Side.Received journal ≡ Some head
      → is_greeting head ≡ true

-- of such a reply on channel zero some frames have passed and not the last, what is under way goes
-- on with it, and the peer has asked nothing
pub record IsGreetingOpen (zero : List Item) : Type 0 where
  pub before : Head
  pub last : previous Side.Received zero ≡ Some before
  pub more : before.more ≡ true
  pub single : is_single before.kind ≡ true
  pub under : (head : Head) → under_way Side.Received zero ≡ Some head
      → is_single head.kind ≡ true
  pub unasked : asked Side.Received zero ≡ None ∷ []

-- the peer's greeting has come, or is the next to come
abbrev pub Meets : List Item → Type 0
Meets journal = (is_answered Side.Sent 0 (zero_history journal) ≡ true)
    ⊎ (IsGreetingDue journal ⊎ IsGreetingOpen (zero_history journal))

-- ---- what was sent

-- what was sent on channel zero is the beginning of what its script lists there, positions modulo
-- 2^64
abbrev pub SaidZero : PlainPlan → List Item → Type 0
SaidZero plan journal = (count : ℕ)
    → BeginsWith (map mark_modulo_2_64 (script_marks plan 0 count journal))
    (map mark_modulo_2_64 (marks Side.Sent (zero_history journal)))

-- so it is in the session that a log shows
abbrev pub ShowsSaidZero : PlainPlan → List Moment → Type 0
ShowsSaidZero plan log = (past : Past) → Shows none_tunes log past → SaidZero plan past.journal

-- it was so at each moment
abbrev pub AllSaidZero : PlainPlan → List Item → Type 0
AllSaidZero plan [] = SaidZero plan []
AllSaidZero plan (item ∷ journal) = SaidZero plan (item ∷ journal) × AllSaidZero plan journal

-- ---- a session on its log

-- a session follows this plan, and offers no profile that tunes
pub record IsPlanOf (plan : PlainPlan) (session : Held) : Type 0 where
  pub role : plan.terms.role ≡ session.role
  pub offers : plan.offers ≡ session.offers
  pub none : NoneTunes plan.offers

-- a session stands for what a log shows. What it gave and prepared on channel zero is what its
-- script lists and owes, its own requests in turn, and no answer is held back whose wait is over
pub record DesksOn (plan : PlainPlan) (session : Held) (log : List Moment) : Type 0 where
  pub plan_is : IsPlanOf plan session
  pub on : StandsOn session log
  pub meets : Meets on.journal
  pub listed : AllSaidZero plan on.journal
  pub placed : AskInTurn plan on.journal
  pub desk : IsDeskOf plan on.journal (on.given 0) session.peer.management.answers
  pub stuck : IsStuck session.peer.lives session.peer.management

-- the same while a message of channel zero waits
pub record DesksWaiting (plan : PlainPlan) (session : Held) (log : List Moment) : Type 0 where
  pub plan_is : IsPlanOf plan session
  pub on : WaitsOn session log
  pub meets : Meets on.journal
  pub listed : AllSaidZero plan on.journal
  pub placed : AskInTurn plan on.journal
  pub desk : IsDeskOf plan on.journal (on.given 0) session.peer.management.answers

-- where an item grants an own request the session goes on, and where it is the peer's greeting the
-- peer has asked nothing
pub record GrantsFirst (item : Item) (journal : List Item) : Type 0 where
  pub going : (position : ℕ) → grants_own position item journal ≡ true
      → is_released journal ≡ false
  pub first : grants_own 0 item journal ≡ true
      → asked Side.Received (zero_history journal) ≡ None ∷ []

-- the same after an item that may clear answers, or for which something is asked: all that came may
-- not be taken yet, and what is asked then, or first in a life that began, may not be given
pub record DesksWithin (plan : PlainPlan) (session : Held) (log : List Moment) : Type 0 where
  pub plan_is : IsPlanOf plan session
  pub on : StandsOn session log
  pub meets : Meets on.journal
  pub listed : AllSaidZero plan on.journal
  pub item : Item
  pub before : List Item
  pub journal_is : on.journal ≡ item ∷ before
  pub grants : GrantsFirst item before
  pub placed : AskInTurn plan before
  pub desk : IsDeskWithin plan item before (on.given 0) session.peer.management.answers
  pub stuck : IsStuck session.peer.lives session.peer.management

-- ---- what a call leaves

-- what came of some octets that an end uses
abbrev pub ComesDesk : PlainPlan → Came → Held → List Moment → Type 0
ComesDesk plan Came.More session log = DesksOn plan session log
ComesDesk plan (Came.Arrived number) session log = DesksWithin plan session log
ComesDesk plan Came.Zero session log = DesksWaiting plan session log

-- what went out
abbrev pub SaidDesk : PlainPlan → Emit → Held → List Moment → Type 0
SaidDesk plan (Emit.Seq seq) session log = DesksOn plan session log
SaidDesk plan (Emit.Data head) session log = DesksWithin plan session log
SaidDesk plan Emit.Nothing session log = DesksOn plan session log

-- ---- what a sender asks

-- a close of a channel was granted, whose life was live or had ended
abbrev pub closes_own : Settled → Bool
closes_own Settled.Greeted = false
closes_own (Settled.Denied code) = false
closes_own (Settled.Begun number place content) = false
closes_own (Settled.NotBegun number code) = false
closes_own (Settled.PeerStarts number place) = false
closes_own (Settled.PeerRefused code) = false
closes_own (Settled.PeerCloses number code) = false
closes_own (Settled.Closed number) = true
closes_own (Settled.NotClosed number code) = false
closes_own (Settled.Stale None) = true
closes_own (Settled.Stale (Some code)) = false
closes_own Settled.Released = false

-- a message that was settled so has a sender ask its start where it is the peer's greeting, and the
-- release where it grants the close that was asked last
pub record AsksSo (asked : ℕ) (settled : Settled) (item : Item) (journal : List Item)
    : Type 0 where
  pub greeted : settled ≡ Settled.Greeted → grants_own 0 item journal ≡ true
  pub greets : grants_own 0 item journal ≡ true → settled ≡ Settled.Greeted
  pub closed : closes_own settled ≡ true → asked ≤ 2 → grants_own 2 item journal ≡ true
  pub closes : grants_own 2 item journal ≡ true → closes_own settled ≡ true
  pub two : grants_own 2 item journal ≡ true → 2 ≤ asked

-- the close of channel 1 is what a sender asks
abbrev pub AsksClose : PlainPlan → Item → List Item → Type 0
AsksClose plan item journal = asks plan.command plan item journal
    ≡ zero_message Kind.Msg 2 (close 1 200 []) ∷ []

-- what goes out ends a sender's lines where it is the first NUL on channel 1
abbrev pub EndsLinesSo : PlainPlan → Progress → Emit → List Item → Type 0
EndsLinesSo plan progress (Emit.Seq seq) journal = Unit {0}
EndsLinesSo plan progress (Emit.Data head) journal = (payload : List ℕ)
    → ends_lines plan (passed Side.Sent head payload) (began Side.Sent head ∷ journal)
    ≡ (not progress.is_sent && (head.channel == 1 && is_nul head.kind))
EndsLinesSo plan progress Emit.Nothing journal = Unit {0}
