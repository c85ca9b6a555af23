-- What an end gave on channel zero and what it hasn't given yet, by what its script lists and
-- owes there: between two steps of its session, and within one (RFC 3080, section 2.3.1).
-- The code keeps neither list, and lets answers go as what they wait for comes.
use Rattle.std.specs.Prelude.{◌≡◌, ◌⊎◌, ℕ, ◌==◌, Bool, true, false, not, ◌&&◌, List, [], ◌∷◌, ◌++◌, Option, None, Some, map}
use Rattle.beep_peer.specs.beep_frame.specs.Frame.{is_msg}
use Rattle.beep_peer.specs.beep_history.specs.declared.journal.Side.{Side}
use Rattle.beep_peer.specs.beep_history.specs.Journal.{Item, began, passed, told}
use Rattle.beep_peer.specs.beep_history.specs.Marks.{Mark, is_answered}
use Rattle.beep_peer.specs.beep_history.specs.Broken.{KeepsExchangeRules}
use Rattle.beep_peer.specs.beep_mgmt.specs.Message.{message_said, message_text}
use Rattle.beep_peer.specs.beep_journal.specs.Lives.{Event, is_live}
use Rattle.beep_peer.specs.beep_journal.specs.Zero.{zero_history, gathered, events}
use Rattle.beep_peer.specs.beep_asked.specs.Asked.{names_live}
use Rattle.beep_peer.specs.beep_decide.specs.Decide.{PlainStanding, decide}
use Rattle.beep_peer.specs.beep_outbox.specs.Queue.{Message, marks_of}
use Rattle.beep_peer.specs.beep_standing.specs.Standing.{Marks, AreLiveBy}
use Rattle.beep_peer.specs.beep_spoken.specs.Spoken.{AreSpoken}
use Rattle.beep_peer.specs.beep_management.specs.declared.wait.Wait.{Wait}
use Rattle.beep_peer.specs.beep_management.specs.Managed.{Prepared}
use Rattle.beep_peer.specs.beep_management.specs.Manages.{ArePrepared, Manages}
use Rattle.beep_peer.specs.beep_answering.specs.declared.settled.Settled.{Settled}
use Rattle.beep_peer.specs.beep_answering.specs.Decided.{SaysAnswer, SettledBy, kind_of}
use Rattle.beep_peer.specs.declared.peer.Peer.{Peer}
use Rattle.beep_script.specs.beep_talk.specs.AtZero.{Answer, ZeroMessage, answer_message}
use Rattle.beep_script.specs.beep_talk.specs.Plan.{PlainPlan}
use Rattle.beep_script.specs.Desk.{decided, desk, is_clear}
use Rattle.beep_desk.specs.Listed.{spoken_of, spoken_as}
use Rattle.beep_desk.specs.Waiting.{AllWait, IsDone, OnlyGrantsWait}

-- ---- items

-- an item ends no message of channel zero, and is no frame above it: it clears no answer
abbrev pub is_part : Item → Bool
is_part (began by head) = true
is_part (passed by head payload) = head.channel == 0 && head.more
is_part (told by seq) = true

-- an item ends no request of the peer on channel zero
abbrev pub asks_none : Item → Bool
asks_none (began by head) = true
asks_none (passed Side.Received head payload) =
    not (head.channel == 0 && is_msg head.kind && not head.more)
asks_none (passed Side.Sent head payload) = true
asks_none (told by seq) = true

-- ---- between two steps

-- a session whose own windows have this size stands for a journal, in which channel zero keeps the
-- rules of the exchange
pub record StandsIn (size : ℕ) (journal : List Item) (given taken : Marks) (peer : Peer)
    : Type 0 where
  pub keeps : KeepsExchangeRules (zero_history journal)
  pub live : AreLiveBy size journal given taken peer.lives
  pub manages : Manages size journal given peer.management

-- the peer's greeting has come, but where no answer is owed
abbrev pub IsMet : List Answer → List Item → Type 0
IsMet owed journal = (owed ≡ []) ⊎ (is_answered Side.Sent 0 (zero_history journal) ≡ true)

-- these are the marks of whole messages, each of one tag
pub record AreWhole (given : List Mark) : Type 0 where
  pub messages : List Message
  pub marks_are : given ≡ marks_of messages

-- what was given on channel zero is what the script lists, and the answers that weren't given are
-- those that it owes and wait as it says; one that is no RPY waits for nothing
pub record IsDeskOf (plan : PlainPlan) (journal : List Item) (given : List Mark)
    (answers : List Prepared) : Type 0 where
  pub given_is : AreSpoken (map spoken_of (desk plan journal).listed) given
  pub whole : AreWhole given
  pub prepared_is : ArePrepared answers (map spoken_as (desk plan journal).owed)
  pub plain : OnlyGrantsWait answers
  pub waits : AllWait (events journal) (desk plan journal).owed answers
  pub met : IsMet (desk plan journal).owed journal

-- ---- within a step

-- the answers that are owed once an item has happened, before one of them is listed for it
abbrev pub queue_at : PlainPlan → Item → List Item → List Answer
queue_at plan item journal =
    (desk plan journal).owed ++ decided plan (desk plan journal) item journal

-- what the answer to the request at a position waits for, which grants this close or none, where
-- the life that a close names may have ended meanwhile
abbrev pub MayWait : List Event → ℕ → Option ℕ → Wait → Type 0
MayWait events position None waits = waits ≡ Wait.Nothing
MayWait events position (Some number) Wait.Nothing = ((number == 0) ≡ false)
    × (names_live number Side.Received position events ≡ false)
MayWait events position (Some number) (Wait.Life of) = ((number == 0) ≡ false) × (of ≡ number)
    × ((names_live number Side.Received position events ≡ true)
    ⊎ (is_live number events ≡ false))
MayWait events position (Some number) Wait.All = number ≡ 0

-- each of these answers may wait so, one for each that is owed
abbrev pub AllMayWait : List Event → List Answer → List Prepared → Type 0
AllMayWait events [] [] = Unit {0}
AllMayWait events [] (prepared ∷ others) = ⊥
AllMayWait events (answer ∷ answers) [] = ⊥
AllMayWait events (answer ∷ answers) (prepared ∷ others) =
    MayWait events answer.position answer.closes prepared.waits
    × AllMayWait events answers others

-- each of these answers waits for nothing, by the script
abbrev pub AreClear : PlainPlan → List ZeroMessage → List Item → List Answer → Type 0
AreClear plan listed journal [] = Unit {0}
AreClear plan listed journal (answer ∷ answers) =
    (is_clear plan listed journal answer ≡ true) × AreClear plan listed journal answers

-- an item has happened: of the answers that are owed the first, which wait for nothing now, were
-- given, and the others weren't
pub record IsDeskWithin (plan : PlainPlan) (item : Item) (journal : List Item)
    (given : List Mark) (answers : List Prepared) : Type 0 where
  pub said : List Answer
  pub left : List Answer
  pub split : queue_at plan item journal ≡ said ++ left
  pub clear : AreClear plan (desk plan journal).listed (item ∷ journal) said
  pub given_is : AreSpoken
      (map spoken_of ((desk plan journal).listed ++ map answer_message said)) given
  pub whole : AreWhole given
  pub prepared_is : ArePrepared answers (map spoken_as left)
  pub plain : OnlyGrantsWait answers
  pub waits : AllMayWait (events (item ∷ journal)) left answers
  pub met : IsMet (queue_at plan item journal) (item ∷ journal)

-- the answer to the request that ends in a frame with this payload is the one that is called for,
-- by what stands
pub record IsCalledFor (standing : PlainStanding) (journal : List Item) (payload : List ℕ)
    (settled : Settled) (answer : Prepared) : Type 0 where
  pub kind : answer.kind ≡ kind_of (decide standing
      (message_said (gathered Side.Received (zero_history journal) ++ payload)))
  pub says : SaysAnswer standing (decide standing
      (message_said (gathered Side.Received (zero_history journal) ++ payload))) answer.octets
  pub by : SettledBy (decide standing
      (message_said (gathered Side.Received (zero_history journal) ++ payload)))
      (message_said (gathered Side.Received (zero_history journal) ++ payload)) settled
      answer.waits

-- these messages are given for messages that are listed: each is of the kind, and its octets say
-- the value as the other end reads it
abbrev pub AreGivenFor : List Message → List ZeroMessage → Type 0
AreGivenFor [] [] = Unit {0}
AreGivenFor [] (one ∷ others) = ⊥
AreGivenFor (message ∷ messages) [] = ⊥
AreGivenFor (message ∷ messages) (one ∷ others) = (message.tag.kind ≡ one.tag.kind)
    × (message.octets ≡ message_text one.form)
    × (message_said (message_text one.form) ≡ Some one.form)
    × AreGivenFor messages others

-- ---- what is said above channel zero

-- in each life for which an answer waits so all that the script has is sent where all that was
-- given is, once no request waits there
abbrev pub IsDoneFor : PlainPlan → List Item → Marks → Wait → Type 0
IsDoneFor plan journal given Wait.Nothing = Unit {0}
IsDoneFor plan journal given (Wait.Life number) =
    (number == 0) ≡ false → IsDone plan journal given number
IsDoneFor plan journal given Wait.All =
    (number : ℕ) → (number == 0) ≡ false → IsDone plan journal given number

-- the same for each of these answers
abbrev pub AreDoneFor : PlainPlan → List Item → Marks → List Prepared → Type 0
AreDoneFor plan journal given [] = Unit {0}
AreDoneFor plan journal given (answer ∷ answers) =
    IsDoneFor plan journal given answer.waits × AreDoneFor plan journal given answers
