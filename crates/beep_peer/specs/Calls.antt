-- What each call makes of the journal for which a peer stands (RFC 3080, sections 2.2.1 and 2.3.1).
-- Each speaks of every journal for which the peer stood: none is kept.
use Rattle.std.specs.Prelude.{◌≡◌, ℕ, ◌⊎◌, ◌==◌, ◌||◌, Bool, true, false, List, [], ◌∷◌, ◌++◌, map, Option, None}
use Rattle.beep_upright.specs.beep_frame.specs.declared.head.Head.{Head}
use Rattle.beep_upright.specs.beep_frame.specs.declared.kind.Kind.{Kind}
use Rattle.beep_upright.specs.beep_history.specs.declared.journal.Side.{Side}
use Rattle.beep_upright.specs.beep_history.specs.Journal.{Item, began, passed, told}
use Rattle.beep_upright.specs.beep_journal.specs.Life.{history, is_there, is_released}
use Rattle.beep_upright.specs.beep_frame.specs.Frame.{framed, seq_frame}
use Rattle.beep_upright.specs.beep_frame.specs.Spelling.{spelling}
use Rattle.beep_upright.specs.beep_outbox.specs.Queue.{Message, message_marks, marks_of}
use Rattle.beep_upright.specs.beep_channel.specs.Held.{Held, Live}
use Rattle.beep_upright.specs.beep_channel.specs.Stands.{IsNext}
use Rattle.beep_upright.specs.beep_standing.specs.Standing.{Marks, no_marks, AreLive}
use Rattle.beep_upright.specs.beep_standing.specs.Due.{has_due, has_ready}
use Rattle.beep_upright.specs.beep_speaking.specs.declared.emit.Emit.{Emit}
use Rattle.beep_upright.specs.beep_speaking.specs.Emits.{NoSeq}
use Rattle.std.specs.List.{list_any}
use Rattle.beep_upright.specs.beep_lives.specs.Lives.{can_send, live_at, owes_seq, IsFirstOf}
use Rattle.beep_upright.specs.beep_mgmt.specs.Form.{Form}
use Rattle.beep_upright.specs.beep_decide.specs.Decide.{PlainStanding, decide}
use Rattle.beep_answering.specs.declared.settled.Settled.{Settled}
use Rattle.beep_answering.specs.Decided.{SaysAnswer, SettledBy, kind_of}
use Rattle.beep_hearing.specs.Hears.{IsZeroTaken, SameAbove}
use Rattle.beep_upright.specs.beep_management.specs.Managed.{Prepared, Managed, without}
use Rattle.beep_upright.specs.beep_management.specs.Manages.{Manages}
use Rattle.beep_peer.specs.declared.peer.Peer.{Peer}
use Rattle.beep_peer.specs.Peering.{AreFew, HasRoomFor, Holds, IsPeer, Carries, is_greeted}
use Rattle.beep_peer.specs.Waiting.{AreGiven, AllHaveCome}

-- the first of these answers were let go: channel zero was given their messages, and all else stays
pub record LetsGo (size : ℕ) (journal : List Item) (given taken : Marks)
    (answers : List Prepared) (channels : List Live) (m : Managed) : Type 0 where
  pub given_now : Marks
  pub same : SameAbove given given_now
  pub gone : List Prepared
  pub split : answers ≡ gone ++ m.answers
  pub messages : List Message
  pub are : AreGiven messages gone
  pub given_is : given_now 0 ≡ given 0 ++ marks_of messages
  pub holds : Holds size journal given_now taken channels m

-- what answers say, whatever they wait for
abbrev pub words_of : List Prepared → List (Kind × List ℕ)
words_of answers = map (λ answer. (answer.kind, answer.octets)) answers

-- these answers are left as they were, or none of them waits any more for the life of one number
-- that has no live channel now
abbrev pub AreLeft : List Live → List Prepared → List Prepared → Type 0
AreLeft channels old new = (new ≡ old) ⊎ ((number : ℕ) × (new ≡ without number old)
    × (live_at number channels ≡ None))

-- of these answers the first, whose waits are over, were given to channel zero, and nothing else;
-- the others are left
pub record GivesFirst (given given_now : Marks) (answers : List Prepared) (peer : Peer)
    : Type 0 where
  pub now : List Prepared
  pub left : AreLeft peer.lives answers now
  pub gone : List Prepared
  pub split : now ≡ gone ++ peer.management.answers
  pub come : AllHaveCome gone peer.lives peer.management
  pub messages : List Message
  pub are : AreGiven messages gone
  pub given_is : given_now 0 ≡ given 0 ++ marks_of messages

-- the last frame of an own message of channel zero has passed, and what it says is to be done
pub record HasGone (size : ℕ) (journal : List Item) (given taken : Marks) (head : Head)
    (payload : List ℕ) (channels : List Live) (m : Managed) : Type 0 where
  pub zero_is : (head.channel == 0) ≡ true
  pub last : head.more ≡ false
  pub live : AreLive size (began Side.Sent head ∷ journal)
      (passed Side.Sent head payload ∷ began Side.Sent head ∷ journal) given taken channels
  pub zero : IsZeroTaken journal taken
  pub manages : Manages size (began Side.Sent head ∷ journal) given m
  pub few : AreFew channels m
  pub room : HasRoomFor m.answers channels

-- it is done: the channels and what is kept stand for the whole journal, and the session is
-- released or not
pub record IsDone (size : ℕ) (before after : List Item) (given taken : Marks) (released : Bool)
    (channels : List Live) (m : Managed) : Type 0 where
  pub given_now : Marks
  pub taken_now : Marks
  pub given_is : Carries before after given given_now
  pub zero_is : given_now 0 ≡ given 0
  pub taken_is : Carries before after taken taken_now
  pub holds : Holds size after given_now taken_now channels m
  pub releases : is_released after ≡ (released || is_released before)

-- the message of channel zero that waited was settled: its last frame has passed, and what it says
-- is done; of some answers the first were given
pub record Settles (size : ℕ) (fed : List ℕ) (journal : List Item) (given taken : Marks)
    (head : Head) (payload : List ℕ) (peer : Peer) : Type 0 where
  pub answers : List Prepared
  pub given_now : Marks
  pub gives : GivesFirst given given_now answers peer
  pub taken_now : Marks
  pub given_is : Carries journal (passed Side.Received head payload ∷ journal) given given_now
  pub taken_is : Carries journal (passed Side.Received head payload ∷ journal) taken taken_now
  pub stands : IsPeer size fed [] (passed Side.Received head payload ∷ journal) given_now
      taken_now peer

-- a reply was settled so: no answer joined those that waited
pub record SettlesReply (size : ℕ) (fed : List ℕ) (journal : List Item) (given taken : Marks)
    (head : Head) (payload : List ℕ) (waiting : List Prepared) (peer : Peer) : Type 0 where
  pub settles : Settles size fed journal given taken head payload peer
  pub joined : settles.answers ≡ waiting

-- a request that says this was settled so: one answer joined those that waited, and it is the one
-- that the decision calls for, by what stands
pub record SettlesRequest (size : ℕ) (fed : List ℕ) (journal : List Item) (given taken : Marks)
    (head : Head) (payload : List ℕ) (standing : PlainStanding) (said : Option Form)
    (settled : Settled) (waiting : List Prepared) (peer : Peer) : Type 0 where
  pub answer : Prepared
  pub kind : answer.kind ≡ kind_of (decide standing said)
  pub says : SaysAnswer standing (decide standing said) answer.octets
  pub by : SettledBy (decide standing said) said settled answer.waits
  pub settles : Settles size fed journal given taken head payload peer
  pub joined : settles.answers ≡ waiting ++ answer ∷ []

-- ---- what goes out

-- a frame of an own message went out, header and frame at once; where it is one of channel zero,
-- what it says is still to be done
pub record HasSent (size : ℕ) (journal : List Item) (given taken : Marks) (head : Head)
    (payload : List ℕ) (channels : List Live) (m : Managed) : Type 0 where
  pub above : (head.channel == 0) ≡ false → AreLive size
      (passed Side.Sent head payload ∷ began Side.Sent head ∷ journal)
      (passed Side.Sent head payload ∷ began Side.Sent head ∷ journal) given taken channels
  pub at_zero : (head.channel == 0) ≡ true → AreLive size (began Side.Sent head ∷ journal)
      (passed Side.Sent head payload ∷ began Side.Sent head ∷ journal) given taken channels
  pub zero : IsZeroTaken journal taken
  pub manages : Manages size journal given m
  pub few : AreFew channels m
  pub room : HasRoomFor m.answers channels

-- after it the peer stands for the journal with the frame, and the first of these answers were
-- given
pub record IsSent (size : ℕ) (fed rest : List ℕ) (before after : List Item) (given taken : Marks)
    (answers : List Prepared) (peer : Peer) : Type 0 where
  pub given_now : Marks
  pub gives : GivesFirst given given_now answers peer
  pub taken_now : Marks
  pub given_is : Carries before after given given_now
  pub taken_is : Carries before after taken taken_now
  pub stands : IsPeer size fed rest after given_now taken_now peer

-- the frame is lawful over the history of its life and has the next octets of what was given
pub record IsLawfulNext (size most : ℕ) (journal : List Item) (given taken : Marks) (head : Head)
    (payload : List ℕ) : Type 0 where
  pub old : Held
  pub new : Held
  pub next : IsNext size most old new (history head.channel journal) (given head.channel)
      (taken head.channel) head payload

-- what an emit answers of the journal for which the peer stood, and of the octets before and after:
-- the SEQ or the frame that went out, or that nothing is due
abbrev pub Speaks : Emit → ℕ → ℕ → List ℕ → List ℕ → List Item → Marks → Marks
    → Peer → Peer → List ℕ → List ℕ → Type 0
Speaks (Emit.Seq seq) size most fed rest journal given taken old new before after =
    (after ≡ before ++ spelling (seq_frame seq))
    × (has_due size (taken seq.channel) (history seq.channel journal) ≡ true)
    × IsPeer size fed rest (told Side.Sent seq ∷ journal) given taken new
Speaks (Emit.Data head) size most fed rest journal given taken old new before after =
    (payload : List ℕ) × (after ≡ before ++ spelling (framed head payload))
    × IsLawfulNext size most journal given taken head payload
    × IsSent size fed rest journal
    (passed Side.Sent head payload ∷ began Side.Sent head ∷ journal) given taken
    old.management.answers new
Speaks Emit.Nothing size most fed rest journal given taken old new before after =
    (new ≡ old) × (after ≡ before)
    × (is_greeted old.management ≡ true → (n : ℕ) → is_there n journal ≡ true
    → has_due size (taken n) (history n journal) ≡ false)
    × ((n : ℕ) → is_there n journal ≡ true → has_ready (given n) (history n journal) ≡ false)

-- whose turn it is: a SEQ of the lowest channel that owes one, once the own greeting has gone, and
-- else the lowest channel that can send
abbrev pub TakesTurn : Emit → Peer → Type 0
TakesTurn (Emit.Seq seq) peer =
    (is_greeted peer.management ≡ true) × IsFirstOf owes_seq seq.channel peer.lives
TakesTurn (Emit.Data head) peer =
    NoSeq (is_greeted peer.management) peer.lives × IsFirstOf can_send head.channel peer.lives
TakesTurn Emit.Nothing peer =
    NoSeq (is_greeted peer.management) peer.lives × (list_any can_send peer.lives ≡ false)

-- ---- a peer that begins

-- it stands for the empty journal: nothing was given but this greeting
pub record Begins (size : ℕ) (greeting : List ℕ) (peer : Peer) : Type 0 where
  pub message : Message
  pub is_rpy : message.tag.kind ≡ Kind.Rpy
  pub is_text : message.octets ≡ greeting
  pub given : Marks
  pub given_is : given 0 ≡ message_marks message
  pub same : SameAbove no_marks given
  pub stands : IsPeer size [] [] [] given no_marks peer
