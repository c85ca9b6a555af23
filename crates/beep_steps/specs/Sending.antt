-- A sender on the log of its link: what it asked and answered so far is what it is to say, each
-- once and in order (RFC 3195, section 3.1).
-- The code keeps the place of the next line, how far it has asked, and a flag.
use Rattle.std.specs.Prelude.{◌≡◌, ℕ, ◌+◌, ◌≤◌, ◌==◌, Bool, true, false, ◌||◌, ◌&&◌, List, [], take, Result, Ok, Err}
use Rattle.beep_session.specs.beep_history.specs.declared.journal.Side.{Side}
use Rattle.beep_session.specs.beep_frame.specs.Frame.{is_nul}
use Rattle.beep_session.specs.beep_speaking.specs.declared.emit.Emit.{Emit}
use Rattle.beep_session.specs.beep_history.specs.Journal.{Item}
use Rattle.beep_session.specs.beep_journal.specs.declared.role.Role.{Role}
use Rattle.beep_session.specs.beep_journal.specs.Broken.{none_tunes}
use Rattle.beep_session.specs.beep_journal.specs.Journal.{Past, Shows as ShowsPast}
use Rattle.beep_session.specs.beep_journal.specs.Lives.{lives}
use Rattle.beep_session.specs.beep_journal.specs.Zero.{events}
use Rattle.beep_session.specs.beep_journal.specs.Life.{life, is_there}
use Rattle.beep_session.specs.beep_journal.specs.Log.{Moment}
use Rattle.beep_session.specs.beep_standing.specs.Standing.{Marks}
use Rattle.beep_logged.specs.Logged.{IsSound}
use Rattle.beep_session.specs.beep_settings.specs.declared.settings.Settings.{Settings}
use Rattle.beep_session.specs.beep_octets.specs.declared.octets.NoMemory.{NoMemory}
use Rattle.beep_link.specs.beep_wires.specs.Log.{Entry}
use Rattle.beep_link.specs.declared.ended.Ended.{Ended}
use Rattle.beep_link.specs.declared.ended.Stop.{Stop}
use Rattle.beep_session.specs.Session.{Held}
use Rattle.beep_desk.specs.beep_talk.specs.declared.plan.Command.{Command}
use Rattle.beep_desk.specs.beep_talk.specs.Plan.{PlainPlan}
use Rattle.beep_desk.specs.beep_script.specs.EachEnd.{HasSentAll}
use Rattle.beep_desk.specs.beep_script.specs.Requested.{requests_from, sender_texts, SenderTexts}
use Rattle.beep_desk.specs.beep_script.specs.Sending.{LinesGiven, SentSome, SentWhole}
use Rattle.beep_steps.specs.Logs.{moments, terms_by, StandsOn, WaitsOn, Shows, ShowsFault}
use Rattle.beep_steps.specs.Refusing.{GoesUnrefused, ShowsNoRefusal}
use Rattle.beep_steps.specs.declared.hearing.Came.{Came}

-- how far a sender is: the place of its next line, how many requests it asked, and whether the end
-- of its lines has gone
pub record Progress : Type 0 where
  pub next : ℕ
  pub asked : ℕ
  pub is_sent : Bool

-- what it asked on channel zero, and what it gave and sent on channel 1; its close was asked once
-- the end of its lines had gone
pub record Sends (plan : PlainPlan) (progress : Progress) (journal : List Item) (given : Marks)
    : Type 0 where
  pub asked : requests_from [] (given 0) ≡ take progress.asked (sender_texts plan.raw_uri)
  pub lines : is_there 1 journal ≡ true → LinesGiven plan.lines progress.next (given 1)
  pub fresh : lives 1 (events journal) ≡ 0 → progress.next ≡ 0
  pub some : progress.is_sent ≡ false → SentSome (life 1 1 journal)
  pub whole : progress.is_sent ≡ true → SentWhole plan.lines (life 1 1 journal)
  pub closes : 2 ≤ progress.asked → progress.is_sent ≡ true

-- the session is that of an initiator that sends, whose requests are read as what they say
pub record IsSender (plan : PlainPlan) (session : Held) : Type 0 where
  pub command : plan.command ≡ Command.Send
  pub role : session.role ≡ Role.Initiator
  pub texts : SenderTexts plan.raw_uri

-- it stands for what a log shows, and has said so much of what it is to say
pub record SendsOn (plan : PlainPlan) (progress : Progress) (session : Held) (log : List Moment)
    : Type 0 where
  pub sender : IsSender plan session
  pub on : StandsOn session log
  pub sends : Sends plan progress on.journal on.given

-- the same while a message of channel zero waits
pub record SendsWaiting (plan : PlainPlan) (progress : Progress) (session : Held)
    (log : List Moment) : Type 0 where
  pub sender : IsSender plan session
  pub on : WaitsOn session log
  pub sends : Sends plan progress on.journal on.given

-- a call that takes a sender so far leaves it so, whatever the log shows
abbrev pub KeepsSending : PlainPlan → Progress → Progress → Held → Held → Type 0
KeepsSending plan before after old new = (log : List Moment)
    → SendsOn plan before old log → SendsOn plan after new log

-- what came of some octets that a sender uses
abbrev pub ComesSending : PlainPlan → Progress → Came → Held → List Moment → Type 0
ComesSending plan progress Came.More session log = SendsOn plan progress session log
ComesSending plan progress (Came.Arrived number) session log = SendsOn plan progress session log
ComesSending plan progress Came.Zero session log = SendsWaiting plan progress session log

-- the end of the lines has gone where what went out is the frame of a NUL on channel 1
abbrev pub went_by : Emit → Progress → Progress
went_by (Emit.Data head) progress = record progress {
  is_sent = progress.is_sent || (head.channel == 1 && is_nul head.kind);
}
went_by (Emit.Seq seq) progress = progress
went_by Emit.Nothing progress = progress

-- ---- a sender

-- what a sender is to do by these settings
abbrev pub sender_plan : Settings → List (List ℕ) → PlainPlan
sender_plan settings lines = record {
  command = Command.Send;
  terms = terms_by Role.Initiator settings;
  offers = [];
  raw_uri = settings.raw_uri;
  lines = lines;
}

-- it has said nothing
abbrev pub at_first : Progress
at_first = record { next = 0; asked = 0; is_sent = false }

-- its next line is at this place
abbrev pub at_next : ℕ → Progress → Progress
at_next next progress = record progress { next = next }

-- its next line was answered, where there was room
abbrev pub if_given : Result Bool NoMemory → Progress → Progress
if_given (Ok true) progress = at_next (progress.next + 1) progress
if_given (Ok false) progress = progress
if_given (Err error) progress = progress

-- it asked for its close, where that was given
abbrev pub if_closed : Result Bool NoMemory → Progress → Progress
if_closed (Ok true) progress = record progress { asked = 2 }
if_closed (Ok false) progress = progress
if_closed (Err error) progress = progress

-- ---- what ended it

-- a log shows that all was sent: the session is released, each written frame is whole, and the
-- close was granted
pub record ShowsSent (plan : PlainPlan) (log : List Moment) : Type 0 where
  pub sound : IsSound plan.terms log
  pub whole : sound.past.rest Side.Sent ≡ []
  pub all : HasSentAll plan sound.past.journal

-- the same of each session that the log of a link shows
abbrev pub SendsAll : PlainPlan → List Entry → Type 0
SendsAll plan log =
    (past : Past) → ShowsPast none_tunes (moments log) past → HasSentAll plan past.journal

-- what stops a sender as it uses octets: where it is released and was refused nothing, all was sent
abbrev pub StopsSending : PlainPlan → Stop → List Moment → Type 0
StopsSending plan Stop.Released log = ShowsNoRefusal plan.terms log → ShowsSent plan log
StopsSending plan (Stop.Broken rule place) log = ShowsFault plan.terms rule place log
StopsSending plan Stop.WriteFault log = Unit {0}
StopsSending plan Stop.NoMemory log = Unit {0}
StopsSending plan (Stop.Refused code) log = Unit {0}

-- what the log of a link shows of a sender that ended so
pub record TellsSent (plan : PlainPlan) (cause : Ended) (log : List Entry) : Type 0 where
  pub shows : Shows plan.terms cause log
  pub sent : cause ≡ Ended.Released → ShowsSent plan (moments log)
  pub unrefused : GoesUnrefused plan.terms cause log
