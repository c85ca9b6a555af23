-- What a listener keeps of its script above channel zero: in each live life it has given nothing,
-- or what is asked first there and then refusals, in order (RFC 3195, section 3).
-- The code keeps three lists of numbers and a test, and no journal.
use Rattle.std.specs.Prelude.{◌≡◌, ℕ, ◌==◌, Bool, true, false, ◌||◌, List, [], ◌∷◌, ◌++◌, map, flat_map}
use Rattle.beep_session.specs.beep_history.specs.declared.journal.Side.{Side}
use Rattle.beep_session.specs.beep_history.specs.Journal.{Item}
use Rattle.beep_session.specs.beep_history.specs.Marks.{Mark, marks, mark_modulo_2_64}
use Rattle.beep_session.specs.beep_history.specs.Messages.{Message}
use Rattle.beep_session.specs.beep_journal.specs.Broken.{none_tunes}
use Rattle.beep_session.specs.beep_journal.specs.Journal.{Past, Shows}
use Rattle.beep_session.specs.beep_journal.specs.Life.{is_released, is_there, life, life_now}
use Rattle.beep_session.specs.beep_journal.specs.Log.{Moment}
use Rattle.beep_session.specs.beep_journal.specs.Zero.{events}
use Rattle.beep_session.specs.beep_decide.specs.Decide.{is_among}
use Rattle.beep_session.specs.beep_standing.specs.Standing.{Marks}
use Rattle.beep_session.specs.beep_answering.specs.declared.settled.Settled.{Settled}
use Rattle.beep_session.specs.Session.{Held}
use Rattle.beep_desk.specs.beep_talk.specs.declared.plan.Command.{Command}
use Rattle.beep_desk.specs.beep_talk.specs.Plan.{PlainPlan}
use Rattle.beep_desk.specs.beep_talk.specs.Talk.{has_peer_release, ready}
use Rattle.beep_desk.specs.beep_script.specs.Desk.{is_closing}
use Rattle.beep_desk.specs.beep_script.specs.Script.{script_marks, message_marks, BeginsWith}
use Rattle.beep_replies.specs.Replies.{first_said, replies}
pub use Rattle.beep_steps.specs.Scripting.{ShowsAbove}
use Rattle.beep_steps.specs.Logs.{StandsOn, WaitsOn}
use Rattle.beep_steps.specs.declared.hearing.Came.{Came}

-- ---- what a listener notes

-- the numbers of live lives in which what is asked first was given, and whether a close of 0 by
-- the peer has come
pub record Notes : Type 0 where
  pub spoken : List ℕ
  pub leaving : Bool

-- nothing
abbrev pub no_notes : Notes
no_notes = record { spoken = []; leaving = false }

-- what is asked first in a life that begins now
abbrev pub asked_now : Bool → List Message
asked_now true = []
asked_now false = ready ∷ []

-- a close of 0 by the peer was settled, which waits until all is drained
abbrev pub closes_all : Settled → Bool
closes_all Settled.Greeted = false
closes_all (Settled.Denied code) = false
closes_all (Settled.Begun number chosen content) = false
closes_all (Settled.NotBegun number code) = false
closes_all (Settled.PeerStarts number chosen) = false
closes_all (Settled.PeerRefused code) = false
closes_all (Settled.PeerCloses number code) = number == 0
closes_all (Settled.Closed number) = false
closes_all (Settled.NotClosed number code) = false
closes_all (Settled.Stale code) = false
closes_all Settled.Released = false

-- the same notes, once this was settled
abbrev pub noted_by : Settled → Notes → Notes
noted_by settled notes = record notes { leaving = closes_all settled || notes.leaving }

-- ---- what was given in a life

-- the marks of messages, positions modulo 2^64
abbrev pub modulo_marks : List Message → List Mark
modulo_marks messages = map mark_modulo_2_64 (flat_map message_marks messages)

-- it is what is asked first, and then the replies to so many requests
pub record IsSaid (plan : PlainPlan) (first : List Message) (given : List Mark) : Type 0 where
  pub count : ℕ
  pub given_is : given ≡ modulo_marks (first ++ replies plan 0 count)

-- what passed in each life above channel zero is the beginning of its script, positions modulo 2^64
abbrev pub KeepsSaid : PlainPlan → List Item → Type 0
KeepsSaid plan journal = (number count : ℕ) → (number == 0) ≡ false
    → BeginsWith (map mark_modulo_2_64 (script_marks plan number count journal))
    (map mark_modulo_2_64 (marks Side.Sent (life number count journal)))

-- ---- the journal and the notes

-- in each live life above zero that is noted what is to be said first was given, and then refusals;
-- in another nothing was
pub record SpeaksSo (plan : PlainPlan) (notes : Notes) (journal : List Item) (given : Marks)
    : Type 0 where
  pub said : (n : ℕ) → (n == 0) ≡ false → is_there n journal ≡ true
      → is_among n notes.spoken ≡ true
      → IsSaid plan (first_said plan n (life_now n journal) journal) (given n)
  pub silent : (n : ℕ) → (n == 0) ≡ false → is_there n journal ≡ true
      → is_among n notes.spoken ≡ false → given n ≡ []
  pub leaving : has_peer_release (events journal) ≡ notes.leaving
  pub keeps : KeepsSaid plan journal

-- in each live life above zero what is asked first was given
abbrev pub AllSpoken : Notes → List Item → Type 0
AllSpoken notes journal = (n : ℕ) → (n == 0) ≡ false → is_there n journal ≡ true
    → is_among n notes.spoken ≡ true

-- the numbers in which was spoken are those of the live lives above zero
pub record AreNoted (notes : Notes) (journal : List Item) : Type 0 where
  pub spoken : (n : ℕ) → (n == 0) ≡ false → is_among n notes.spoken ≡ true
      → is_there n journal ≡ true
  pub all : AllSpoken notes journal

-- ---- a session on its log

-- a listener's session stands for what a log shows, and keeps its script above channel zero
pub record SpeaksOn (plan : PlainPlan) (notes : Notes) (session : Held) (log : List Moment)
    : Type 0 where
  pub listens : plan.command ≡ Command.Listen
  pub on : StandsOn session log
  pub scripts : SpeaksSo plan notes on.journal on.given
  pub noted : AreNoted notes on.journal

-- the same while a message of channel zero waits
pub record SpeaksWaiting (plan : PlainPlan) (notes : Notes) (session : Held)
    (log : List Moment) : Type 0 where
  pub listens : plan.command ≡ Command.Listen
  pub on : WaitsOn session log
  pub scripts : SpeaksSo plan notes on.journal on.given
  pub noted : AreNoted notes on.journal

-- a life of this number has begun: the session goes on, no close of the life waits, and this is
-- asked first there
pub record IsBorn (plan : PlainPlan) (notes : Notes) (n : ℕ) (journal : List Item) : Type 0 where
  pub going : is_released journal ≡ false
  pub unclosed : is_closing n journal ≡ false
  pub first : first_said plan n (life_now n journal) journal ≡ asked_now notes.leaving

-- it is live above zero, and isn't noted
pub record IsUnspoken (notes : Notes) (n : ℕ) (journal : List Item) : Type 0 where
  pub above : (n == 0) ≡ false
  pub there : is_there n journal ≡ true
  pub none : is_among n notes.spoken ≡ false

-- the same after a frame went out: one life may have begun, in which nothing was given
pub record SpeaksGone (plan : PlainPlan) (notes : Notes) (session : Held) (log : List Moment)
    : Type 0 where
  pub listens : plan.command ≡ Command.Listen
  pub on : StandsOn session log
  pub scripts : SpeaksSo plan notes on.journal on.given
  pub born : (n : ℕ) → IsUnspoken notes n on.journal → IsBorn plan notes n on.journal
  pub one : (n m : ℕ) → IsUnspoken notes n on.journal → IsUnspoken notes m on.journal → n ≡ m

-- the same where all live lives are noted, and in that of this number, which has just begun,
-- nothing was given
pub record SpeaksNew (plan : PlainPlan) (notes : Notes) (number : ℕ) (session : Held)
    (log : List Moment) : Type 0 where
  pub listens : plan.command ≡ Command.Listen
  pub on : StandsOn session log
  pub noted : AreNoted notes on.journal
  pub above : (number == 0) ≡ false
  pub there : is_there number on.journal ≡ true
  pub born : IsBorn plan notes number on.journal
  pub none : on.given number ≡ []
  pub others : (n : ℕ) → (n == 0) ≡ false → is_there n on.journal ≡ true
      → (number == n) ≡ false
      → IsSaid plan (first_said plan n (life_now n on.journal) on.journal) (on.given n)
  pub leaving : has_peer_release (events on.journal) ≡ notes.leaving
  pub keeps : KeepsSaid plan on.journal

-- a call leaves a listener one that keeps its script, with these notes, whatever the log shows
abbrev pub KeepsSpeaking : PlainPlan → Notes → Notes → Held → Held → Type 0
KeepsSpeaking plan before after old new = (log : List Moment)
    → SpeaksOn plan before old log → SpeaksOn plan after new log

-- what came of some octets that a listener uses
abbrev pub ComesSpeaking : PlainPlan → Notes → Came → Held → List Moment → Type 0
ComesSpeaking plan notes Came.More session log = SpeaksOn plan notes session log
ComesSpeaking plan notes (Came.Arrived number) session log = SpeaksOn plan notes session log
ComesSpeaking plan notes Came.Zero session log = SpeaksWaiting plan notes session log

-- ---- what a log shows

-- what passed in each life above channel zero is the beginning of its script, positions modulo 2^64
abbrev pub ShowsSaid : PlainPlan → List Moment → Type 0
ShowsSaid plan log = (past : Past) → Shows none_tunes log past → KeepsSaid plan past.journal
