-- What each step of a session over a link adds to the journal that the log shows, and what it
-- leaves untaken above channel zero (RFC 3080, section 2.2.1).
-- The code keeps no journal and no marks.
use Rattle.std.specs.Prelude.{◌≡◌, ℕ, ◌==◌, Bool, true, false, ◌&&◌, if◌then◌else◌, List, [], ◌∷◌, ◌++◌, length, map, take, ◌≤◌, ◌<◌, Some, Option}
use Rattle.std.specs.List.{list_any}
use Rattle.beep_session.specs.beep_frame.specs.Frame.{is_msg}
use Rattle.beep_session.specs.beep_frame.specs.declared.head.Head.{Head}
use Rattle.beep_session.specs.beep_frame.specs.declared.head.TheConstants.{MAX_NUMBER}
use Rattle.beep_session.specs.beep_history.specs.declared.journal.Side.{Side}
use Rattle.beep_session.specs.beep_history.specs.Journal.{Item, began, passed, told, same_side}
use Rattle.beep_session.specs.beep_history.specs.Marks.{Mark, frame_marks, mark_modulo_2_64, tag_of}
use Rattle.beep_session.specs.beep_journal.specs.Broken.{none_tunes}
use Rattle.beep_session.specs.beep_journal.specs.Journal.{Past, Shows}
use Rattle.beep_session.specs.beep_journal.specs.Life.{history, is_there, life_now, life_under_way}
use Rattle.beep_session.specs.beep_journal.specs.Log.{Moment, got_all}
use Rattle.beep_session.specs.beep_journal.specs.Zero.{gathered, zero_history}
use Rattle.beep_session.specs.beep_mgmt.specs.Form.{Form}
use Rattle.beep_session.specs.beep_mgmt.specs.Message.{message_said}
use Rattle.beep_session.specs.beep_decide.specs.Decide.{decide as decided}
use Rattle.beep_session.specs.beep_asked.specs.Kept.{Kept, oldest}
use Rattle.beep_session.specs.beep_answering.specs.Decided.{IsSettledAs, IsSettledBy}
use Rattle.beep_session.specs.beep_answering.specs.declared.settled.Settled.{Settled}
use Rattle.beep_session.specs.beep_peer.specs.Standing.{standing_of}
use Rattle.beep_session.specs.beep_inbox.specs.declared.part.Part.{Part}
use Rattle.beep_session.specs.beep_inbox.specs.Laws.{part_marks}
use Rattle.beep_session.specs.beep_inbox.specs.Runs.{marks_of as untaken_marks}
use Rattle.beep_session.specs.beep_inbox.specs.Untaken.{IsTaken}
use Rattle.beep_session.specs.beep_giving.specs.Looks.{inbox_of}
use Rattle.beep_session.specs.beep_channel.specs.Held.{Live}
use Rattle.beep_session.specs.beep_lives.specs.Lives.{live_at}
use Rattle.beep_session.specs.beep_hearing.specs.Hears.{ends_zero, is_above}
use Rattle.beep_session.specs.beep_speaking.specs.declared.emit.Emit.{Emit}
use Rattle.beep_link.specs.declared.ended.Stop.{Stop}
use Rattle.beep_session.specs.Looks.{IsTakenAt}
use Rattle.beep_session.specs.Session.{Held}
use Rattle.beep_steps.specs.declared.hearing.Came.{Came as CameValue}
use Rattle.beep_steps.specs.Logs.{AreTaken, StandsOn, WaitsOn}

-- ---- what goes out, and what comes

-- what an emit adds to a journal
abbrev pub Says : Emit → List Item → List Item → Type 0
Says (Emit.Seq seq) old new = new ≡ told Side.Sent seq ∷ old
Says (Emit.Data head) old new =
    (payload : List ℕ) × (new ≡ passed Side.Sent head payload ∷ began Side.Sent head ∷ old)
Says Emit.Nothing old new = new ≡ old

-- it is a frame of channel zero
abbrev pub is_zero_frame : Emit → Bool
is_zero_frame (Emit.Seq seq) = false
is_zero_frame (Emit.Data head) = head.channel == 0
is_zero_frame Emit.Nothing = false

-- ---- a frame that arrives

-- the marks that a frame above zero adds to those of its live life
abbrev pub arrived_marks : Head → List ℕ → List Item → List Mark
arrived_marks head payload journal =
    if is_there head.channel journal
    && life_under_way head.channel Side.Received journal == life_now head.channel journal
    then frame_marks (tag_of Side.Received (history head.channel journal) head) head payload
    else []

-- a session said this, and stands for what the log shows after it
pub record Spoke (said : Emit) (old new : Held) (journal : List Item) (after : List Moment)
    : Type 0 where
  pub on : StandsOn new after
  pub says : Says said journal on.journal
  pub taken : AreTaken old → AreTaken new

-- of what a frame brought that arrived last above zero this is untaken, and nothing else above zero
pub record IsUntaken (number : ℕ) (left : List Mark) (session : Held) : Type 0 where
  pub own : (channel : Live) → live_at number session.peer.lives ≡ Some channel
      → untaken_marks channel.held.inbox ≡ left
  pub others : (n : ℕ) → (n == number) ≡ false → IsTakenAt n session.peer.lives

-- an item is this end's
abbrev pub is_own : Item → Bool
is_own (began by head) = same_side by Side.Sent
is_own (passed by head payload) = same_side by Side.Sent
is_own (told by seq) = same_side by Side.Sent

-- some items came, of which none ends a message of channel zero or is a frame above it
pub record Came (gained journal now : List Item) : Type 0 where
  pub journal_is : now ≡ gained ++ journal
  pub none_own : list_any is_own gained ≡ false
  pub quiet : list_any ends_zero gained ≡ false
  pub none_above : list_any is_above gained ≡ false

-- no frame above zero came
pub record CameMore (old new : Held) (journal : List Item) (after : List Moment) : Type 0 where
  pub on : StandsOn new after
  pub gained : List Item
  pub came : Came gained journal on.journal
  pub taken : AreTaken old → AreTaken new

-- so many of these octets were used, and no rule was broken by them
pub record StillStands (session : Held) (octets : List ℕ) (log : List Moment) : Type 0 where
  pub count : ℕ
  pub on : StandsOn session (got_all (take count octets) log)

-- one of this channel did, last
pub record CameFrame (number : ℕ) (old new : Held) (journal : List Item) (after : List Moment)
    : Type 0 where
  pub on : StandsOn new after
  pub gained : List Item
  pub before : List Item
  pub head : Head
  pub payload : List ℕ
  pub journal_is : on.journal ≡ passed Side.Received head payload ∷ before
  pub came : Came gained journal before
  pub channel : head.channel ≡ number
  pub above : (head.channel == 0) ≡ false
  pub framed : length payload ≤ MAX_NUMBER
  pub untaken : AreTaken old
      → IsUntaken head.channel (map mark_modulo_2_64 (arrived_marks head payload before)) new

-- a message of channel zero did, which waits
pub record CameZero (old new : Held) (journal : List Item) (after : List Moment) : Type 0 where
  pub waits : WaitsOn new after
  pub gained : List Item
  pub came : Came gained journal waits.journal
  pub taken : AreTaken old → AreTaken new

-- what came of some octets
abbrev pub ComesSo : CameValue → Held → Held → List Item → List Moment → Type 0
ComesSo CameValue.More old new journal after = CameMore old new journal after
ComesSo (CameValue.Arrived number) old new journal after = CameFrame number old new journal after
ComesSo CameValue.Zero old new journal after = CameZero old new journal after

-- what a message of channel zero says, whose last frame carries this
abbrev pub said_by : List ℕ → List Item → Option Form
said_by payload journal =
    message_said (gathered Side.Received (zero_history journal) ++ payload)

-- a message of channel zero was settled
pub record SettledOn (old new : Held) (head : Head) (payload : List ℕ) (journal : List Item)
    (log : List Moment) : Type 0 where
  pub on : StandsOn new log
  pub journal_is : on.journal ≡ passed Side.Received head payload ∷ journal
  pub taken : AreTaken old → AreTaken new

-- what is answered as a message of channel zero is settled: a request as it is decided, and a reply
-- by the request that it answers (RFC 3080, section 2.3.1)
pub record SettlesBy (old : Held) (head : Head) (payload : List ℕ) (journal : List Item)
    (settled : Settled) : Type 0 where
  pub asked : is_msg head.kind ≡ true → IsSettledBy
      (decided (standing_of old.role old.offers old.peer) (said_by payload journal))
      (said_by payload journal) settled
  pub answered : is_msg head.kind ≡ false → (one : Kept)
      → oldest old.peer.management.mine.requests ≡ Some one
      → IsSettledAs one (said_by payload journal) settled

-- ---- a part that is taken

-- these are the first marks that are untaken of a number, one at least, and the others are untaken
-- still
pub record TookPart (number : ℕ) (part : Part) (octets : List ℕ) (left : List Mark) (new : Held)
    : Type 0 where
  pub rest : List Mark
  pub left_is : left ≡ part_marks part octets ++ rest
  pub some : 0 < length (part_marks part octets)
  pub untaken : IsUntaken number rest new

-- of the first untaken run of a number as many octets as find room were taken, and its end where
-- that follows
pub record TookMost (number : ℕ) (part : Part) (before after : List ℕ) (old new : Held)
    : Type 0 where
  pub is_taken : IsTaken part (inbox_of (live_at number old.peer.lives))
      (inbox_of (live_at number new.peer.lives)) before after

-- no mark of a number was untaken, and nothing changed
pub record TookNone (number : ℕ) (old new : Held) : Type 0 where
  pub same : new ≡ old
  pub taken : IsTakenAt number new.peer.lives

-- ---- what ends a session

-- some items came, of which none is a frame above zero
pub record CameBelow (journal now : List Item) : Type 0 where
  pub gained : List Item
  pub journal_is : now ≡ gained ++ journal
  pub none_above : list_any is_above gained ≡ false

-- what a log shows of a session that is released, or whose peer breaks a rule, since its journal
-- was this one
abbrev pub EndsSo : Stop → List Item → List Moment → Type 0
EndsSo Stop.Released journal log =
    (past : Past) → Shows none_tunes log past → CameBelow journal past.journal
EndsSo (Stop.Broken rule place) journal log =
    (past : Past) → Shows none_tunes log past → CameBelow journal past.journal
EndsSo Stop.WriteFault journal log = Unit {0}
EndsSo Stop.NoMemory journal log = Unit {0}
EndsSo (Stop.Refused code) journal log = Unit {0}
