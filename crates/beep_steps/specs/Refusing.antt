-- What shows that the peer refused an end: the first refusal of the journal, by what is settled
-- (RFC 3080, sections 2.3.1.1 to 2.3.1.3).
-- The code keeps neither a journal nor a refusal: it ends at the first.
use Rattle.std.specs.Prelude.{◌≡◌, ◌⊎◌, ℕ, ◌==◌, nat_le, Bool, not, ◌&&◌, ◌||◌, if◌then◌else◌, List, [], ◌∷◌, Option, None, Some}
use Rattle.beep_session.specs.beep_frame.specs.Frame.{is_msg}
use Rattle.beep_session.specs.beep_history.specs.Journal.{Item}
use Rattle.beep_session.specs.beep_journal.specs.Broken.{none_tunes}
use Rattle.beep_session.specs.beep_journal.specs.Journal.{Past, Shows as ShowsPast}
use Rattle.beep_session.specs.beep_journal.specs.Log.{Moment}
use Rattle.beep_session.specs.beep_lawful.specs.declared.terms.Terms.{Terms}
use Rattle.beep_session.specs.beep_lawful.specs.Closing.{has_begun}
use Rattle.beep_session.specs.beep_speaking.specs.declared.emit.Emit.{Emit}
use Rattle.beep_session.specs.beep_answering.specs.declared.settled.Settled.{Settled}
use Rattle.beep_session.specs.Session.{Held}
use Rattle.beep_desk.specs.beep_talk.specs.declared.plan.Command.{Command}
use Rattle.beep_desk.specs.beep_script.specs.Refused.{refusal}
use Rattle.beep_link.specs.beep_wires.specs.Log.{Entry}
use Rattle.beep_link.specs.Causes.{ReadsWhere}
use Rattle.beep_link.specs.declared.ended.Ended.{Ended}
use Rattle.beep_link.specs.declared.ended.Stop.{Stop}
use Rattle.beep_steps.specs.declared.hearing.Came.{Came}
use Rattle.beep_steps.specs.Logs.{moments, command_of, ShowsGoing, ShowsRefused, WaitsOn}

-- ---- what is settled

-- the code of an error by which an own request was answered
abbrev pub denial_of : Settled → Option ℕ
denial_of Settled.Released = None
denial_of Settled.Greeted = None
denial_of (Settled.Denied code) = Some code
denial_of (Settled.Begun number place content) = None
denial_of (Settled.NotBegun number code) = Some code
denial_of (Settled.PeerStarts number place) = None
denial_of (Settled.PeerRefused code) = None
denial_of (Settled.PeerCloses number code) = None
denial_of (Settled.Closed number) = None
denial_of (Settled.NotClosed number code) = Some code
denial_of (Settled.Stale code) = code

-- that of the peer's close of 0 or of channel 1, where the own close of channel 1 hasn't begun
abbrev pub closed_so : Bool → Settled → Option ℕ
closed_so closing Settled.Released = None
closed_so closing Settled.Greeted = None
closed_so closing (Settled.Denied code) = None
closed_so closing (Settled.Begun number place content) = None
closed_so closing (Settled.NotBegun number code) = None
closed_so closing (Settled.PeerStarts number place) = None
closed_so closing (Settled.PeerRefused code) = None
closed_so closing (Settled.PeerCloses number code) =
    if not closing && nat_le number 1 then Some code else None
closed_so closing (Settled.Closed number) = None
closed_so closing (Settled.NotClosed number code) = None
closed_so closing (Settled.Stale code) = None

-- the first of two codes
abbrev pub one_of : Option ℕ → Option ℕ → Option ℕ
one_of None second = second
one_of (Some code) second = Some code

-- the code with which what is settled so refuses an end
abbrev pub refused_so : Command → Bool → Settled → Option ℕ
refused_so Command.Send closing settled = one_of (denial_of settled) (closed_so closing settled)
refused_so Command.Listen closing settled = denial_of settled

-- ---- while it goes on

-- the own close of channel 1 has begun, or begins with what went out: it is the request at position
-- 2, and so its number
abbrev pub closing_by : Emit → Bool → Bool
closing_by (Emit.Data head) closing =
    closing || (head.channel == 0 && is_msg head.kind && head.msgno == 2)
closing_by (Emit.Seq seq) closing = closing
closing_by Emit.Nothing closing = closing

-- the peer refused nothing; a sender's own close of channel 1 has begun or not
pub record Unrefused (command : Command) (closing : Bool) (journal : List Item) : Type 0 where
  pub none : refusal command journal ≡ None
  pub closing_is : command ≡ Command.Send → closing ≡ has_begun 2 journal

-- the same of each session that a log shows
abbrev pub IsUnrefused : Command → Bool → List Moment → Type 0
IsUnrefused command closing log =
    (past : Past) → ShowsPast none_tunes log past → Unrefused command closing past.journal

-- what came of some octets that an end uses
abbrev pub ComesUnrefused : Command → Bool → Came → Held → List Moment → Type 0
ComesUnrefused command closing Came.More session log = IsUnrefused command closing log
ComesUnrefused command closing (Came.Arrived number) session log =
    IsUnrefused command closing log
ComesUnrefused command closing Came.Zero session log =
    (w : WaitsOn session log) → Unrefused command closing w.journal

-- the first refusal of a journal is that of what was settled so, where it refuses
pub record Settling (command : Command) (closing : Bool) (settled : Settled)
    (journal : List Item) : Type 0 where
  pub refusal_is : refusal command journal ≡ refused_so command closing settled
  pub closing_is : command ≡ Command.Send → closing ≡ has_begun 2 journal

-- the same of each session that a log shows
abbrev pub SettlesSo : Command → Bool → Settled → List Moment → Type 0
SettlesSo command closing settled log = (past : Past) → ShowsPast none_tunes log past
    → Settling command closing settled past.journal

-- ---- what ended it

-- a log shows that the peer refused nothing
abbrev pub ShowsNoRefusal : Terms → List Moment → Type 0
ShowsNoRefusal terms log = (past : Past) → ShowsPast none_tunes log past
    → refusal (command_of terms.role) past.journal ≡ None

-- a log shows a session that goes on, in which the peer refused nothing
pub record GoesAlong (terms : Terms) (log : List Moment) : Type 0 where
  pub going : ShowsGoing terms log
  pub unrefused : ShowsNoRefusal terms log

-- wherever the log of a link shows a read, the session that it shows up to there went on: no rule
-- was broken, it wasn't released, and the peer had refused nothing
abbrev pub ReadsOnlyGoing : Terms → List Entry → Type 0
ReadsOnlyGoing terms log = ReadsWhere (λ before. GoesAlong terms (moments before)) log

-- before its latest entry the log of a link shows that the peer refused nothing
abbrev pub UnrefusedBefore : Terms → List Entry → Type 0
UnrefusedBefore terms [] = Unit {0}
UnrefusedBefore terms (entry ∷ log) = ShowsNoRefusal terms (moments log)

-- where an end was released, a rule was broken, its link failed or came to its end, or the settings
-- ended it, the peer refused nothing; where it was refused or a write of its output failed, nothing
-- before the latest read; where memory ran out, one or the other
abbrev pub GoesUnrefused : Terms → Ended → List Entry → Type 0
GoesUnrefused terms Ended.Released log = ShowsNoRefusal terms (moments log)
GoesUnrefused terms (Ended.Broken rule place) log = ShowsNoRefusal terms (moments log)
GoesUnrefused terms Ended.WriteFault log = UnrefusedBefore terms log
GoesUnrefused terms Ended.WireFault log = ShowsNoRefusal terms (moments log)
GoesUnrefused terms Ended.NoMemory log =
    ShowsNoRefusal terms (moments log) ⊎ UnrefusedBefore terms log
GoesUnrefused terms (Ended.Refused code) log = UnrefusedBefore terms log
GoesUnrefused terms (Ended.Cut left) log = ShowsNoRefusal terms (moments log)
GoesUnrefused terms (Ended.Idle count) log = ShowsNoRefusal terms (moments log)
GoesUnrefused terms (Ended.Spent count) log = ShowsNoRefusal terms (moments log)

-- a stop for the output or for memory
abbrev pub IsOtherStop : Stop → Type 0
IsOtherStop Stop.Released = ⊥
IsOtherStop (Stop.Broken rule place) = ⊥
IsOtherStop Stop.WriteFault = Unit {0}
IsOtherStop Stop.NoMemory = Unit {0}
IsOtherStop (Stop.Refused code) = ⊥

-- the same, but for a refusal with this code
abbrev pub RefusesWith : Option ℕ → Stop → Type 0
RefusesWith said Stop.Released = ⊥
RefusesWith said (Stop.Broken rule place) = ⊥
RefusesWith said Stop.WriteFault = Unit {0}
RefusesWith said Stop.NoMemory = Unit {0}
RefusesWith said (Stop.Refused code) = said ≡ Some code

-- what a log shows of a session that is stopped: one that is released or broke a rule was refused
-- nothing, and a refusal is the peer's
abbrev pub RefusesOn : Terms → Stop → List Moment → Type 0
RefusesOn terms Stop.Released log = ShowsNoRefusal terms log
RefusesOn terms (Stop.Broken rule place) log = ShowsNoRefusal terms log
RefusesOn terms Stop.WriteFault log = Unit {0}
RefusesOn terms Stop.NoMemory log = Unit {0}
RefusesOn terms (Stop.Refused code) log = ShowsRefused terms code log
