-- A sender's script above channel zero, on the log of its link: what was sent on each channel is
-- the beginning of its script, and what was given is of its replies, each once and in order (RFC
-- 3195, section 3.1).
-- The code keeps the place of the next line alone.
use Rattle.std.specs.Prelude.{◌≡◌, ℕ, ◌+◌, ◌≤◌, ◌==◌, true, false, List, [], ◌++◌, length, flat_map, map, take}
use Rattle.beep_session.specs.beep_history.specs.declared.journal.Side.{Side}
use Rattle.beep_session.specs.beep_history.specs.Journal.{Item}
use Rattle.beep_session.specs.beep_history.specs.Marks.{Mark, mark_modulo_2_64, marks}
use Rattle.beep_session.specs.beep_journal.specs.Broken.{none_tunes}
use Rattle.beep_session.specs.beep_journal.specs.Journal.{Past, Shows}
use Rattle.beep_session.specs.beep_journal.specs.Life.{is_there}
use Rattle.beep_session.specs.beep_journal.specs.Log.{Moment}
use Rattle.beep_session.specs.beep_journal.specs.Zero.{zero_history}
use Rattle.beep_session.specs.Session.{Held}
use Rattle.beep_session.specs.beep_standing.specs.Standing.{Marks}
use Rattle.beep_desk.specs.beep_talk.specs.Plan.{PlainPlan}
use Rattle.beep_desk.specs.beep_script.specs.Requested.{requests_from, sender_texts}
use Rattle.beep_desk.specs.beep_script.specs.Script.{message_marks, KeepsScript}
use Rattle.beep_desk.specs.beep_script.specs.Sending.{answers_of}
use Rattle.beep_replies.specs.Replies.{KeepsAbove, replies}
use Rattle.beep_link.specs.beep_wires.specs.Log.{Entry}
use Rattle.beep_link.specs.declared.ended.Ended.{Ended}
use Rattle.beep_steps.specs.Logs.{moments}
use Rattle.beep_steps.specs.Sending.{Progress, SendsOn, SendsWaiting, TellsSent}
use Rattle.beep_steps.specs.declared.hearing.Came.{Came}

-- what was given: the answers of so many lines; or where these are all of them, the whole replies
-- to so many requests, positions modulo 2^64
pub data RepliesGiven (plan : PlainPlan) (next : ℕ) (given : List Mark) : Type 0 where
  part_given : given ≡ answers_of (take next plan.lines) → RepliesGiven plan next given
  whole_given : (count : ℕ) → length plan.lines ≤ next
      → given ≡ map mark_modulo_2_64 (flat_map message_marks (replies plan 0 (count + 1)))
      → RepliesGiven plan next given

-- what was sent above channel zero is the beginning of the script, what was given on channel 1 is
-- replies, and on other channels nothing was given
pub record Scripts (plan : PlainPlan) (progress : Progress) (journal : List Item) (given : Marks)
    : Type 0 where
  pub kept : KeepsAbove plan journal
  pub lines : is_there 1 journal ≡ true → RepliesGiven plan progress.next (given 1)
  pub none : (number : ℕ) → (number == 0) ≡ false → (number == 1) ≡ false
      → is_there number journal ≡ true → given number ≡ []

-- a sender stands for what a log shows, and kept its script above channel zero so far
pub record ScriptedOn (plan : PlainPlan) (progress : Progress) (session : Held)
    (log : List Moment) : Type 0 where
  pub sends : SendsOn plan progress session log
  pub scripts : Scripts plan progress sends.on.journal sends.on.given

-- the same while a message of channel zero waits
pub record ScriptedWaiting (plan : PlainPlan) (progress : Progress) (session : Held)
    (log : List Moment) : Type 0 where
  pub sends : SendsWaiting plan progress session log
  pub scripts : Scripts plan progress sends.on.journal sends.on.given

-- a call that takes a sender so far leaves it one that kept its script, whatever the log shows
abbrev pub KeepsScripting : PlainPlan → Progress → Progress → Held → Held → Type 0
KeepsScripting plan before after old new = (log : List Moment)
    → ScriptedOn plan before old log → ScriptedOn plan after new log

-- what came of some octets that a sender uses
abbrev pub ComesScripting : PlainPlan → Progress → Came → Held → List Moment → Type 0
ComesScripting plan progress Came.More session log = ScriptedOn plan progress session log
ComesScripting plan progress (Came.Arrived number) session log =
    ScriptedOn plan progress session log
ComesScripting plan progress Came.Zero session log = ScriptedWaiting plan progress session log

-- a log shows an end that kept its script above channel zero
abbrev pub ShowsAbove : PlainPlan → List Moment → Type 0
ShowsAbove plan log = (past : Past) → Shows none_tunes log past → KeepsAbove plan past.journal

-- a log shows an end that kept its script in each life, channel zero among them
abbrev pub ShowsWhole : PlainPlan → List Moment → Type 0
ShowsWhole plan log = (past : Past) → Shows none_tunes log past → KeepsScript plan past.journal

-- the same of each session that the log of a link shows
abbrev pub KeepsWholeOn : PlainPlan → List Entry → Type 0
KeepsWholeOn plan log = ShowsWhole plan (moments log)

-- what was asked on channel zero, by its history, is the first of a sender's requests: the start of
-- channel 1, its close, and the release
pub record AskedFirst (plan : PlainPlan) (zero : List Item) : Type 0 where
  pub others : List (List ℕ)
  pub asked : requests_from [] (marks Side.Sent zero) ++ others ≡ sender_texts plan.raw_uri

-- a log shows a sender that kept its script above channel zero, and asked nothing but that there
pub record ShowsScript (plan : PlainPlan) (log : List Moment) : Type 0 where
  pub above : ShowsAbove plan log
  pub asked : (past : Past) → Shows none_tunes log past
      → AskedFirst plan (zero_history past.journal)

-- the same of each session that the log of a link shows
abbrev pub KeepsScriptOn : PlainPlan → List Entry → Type 0
KeepsScriptOn plan log = ShowsScript plan (moments log)

-- what the log of a link shows of a sender that ended so
pub record TellsScripted (plan : PlainPlan) (cause : Ended) (log : List Entry) : Type 0 where
  pub tells : TellsSent plan cause log
  pub script : KeepsScriptOn plan log
