-- What `send` and `listen` end with, status by status (RFC 3195, section 3).
-- Each cause is read off the links after the run; the code hands on what ended a session.
use Rattle.std.specs.Prelude.{◌≡◌, ◌≢◌, ℕ, Bool, ◌+◌, ◌*◌, ◌<◌, ◌≤◌, ◌⊎◌, true, false, Option, Some, None, List, [], ◌∷◌, ◌++◌, length, chars}
use Rattle.std.specs.List.{AllByRecursion}
use Rattle.beep_runs.specs.beep_wires.specs.Counts.{Rose}
use Rattle.beep_runs.specs.beep_wires.specs.States.{SourceState, SinkState}
use Rattle.beep_runs.specs.beep_wires.specs.Transfer.{AppendsPrefix}
use Rattle.std.specs.Io.KnownBytes.{Appends}
use Rattle.beep_runs.specs.beep_wires.specs.Links.{Link, Ask, accept, dial, Asked}
use Rattle.beep_runs.specs.beep_link.specs.declared.ended.Ended.{Ended}
use Rattle.beep_runs.specs.beep_link.specs.declared.buffers.TheConstants.{BUFFER}
use Rattle.beep_runs.specs.beep_link.specs.Causes.{HasRead, is_cut, IsBounded, IsQuiet, RoseBy, Seen, WhereKnown}
use Rattle.beep_runs.specs.beep_journal.specs.declared.role.Role.{Role}
use Rattle.beep_runs.specs.beep_steps.specs.EachEnd.{EachEndOn}
use Rattle.beep_runs.specs.beep_steps.specs.Ends.{reads_of}
use Rattle.beep_runs.specs.beep_steps.specs.Logs.{moments, IsLawfulOn, Shows, terms_by}
use Rattle.beep_runs.specs.beep_steps.specs.Refusing.{GoesUnrefused, ReadsOnlyGoing}
use Rattle.beep_runs.specs.beep_steps.specs.Resting.{TellsIdle}
use Rattle.beep_runs.specs.beep_steps.specs.Sending.{sender_plan, SendsAll}
use Rattle.beep_runs.specs.beep_settings.specs.declared.settings.Settings.{Settings}
use Rattle.beep_show.specs.beep_input.specs.Whole.{HasEnded}
use Rattle.beep_show.specs.beep_input.specs.Lines.{AreLines, IsBad}
use Rattle.beep_show.specs.Texts.{bad_line, broken_line, cut_line, idle_line, read_fault_line, refused_line, spent_line, wire_fault_line}
use Rattle.beep_show.specs.Show.{Run, Saw}
use Rattle.beep_cmd.specs.Recorded.{IsEnding}
pub use Rattle.beep_runs.specs.Runs.{most_reads, open_of, seen_of}
pub use Rattle.beep_runs.specs.beep_link.specs.Status.{ended_status}

-- ---- what ends a session

-- the last line of what ended a session, or none
abbrev pub ended_line : Ended → List ℕ
ended_line Ended.Released = []
ended_line (Ended.Broken rule place) = broken_line rule place
ended_line Ended.WriteFault = []
ended_line Ended.WireFault = wire_fault_line
ended_line Ended.NoMemory = []
ended_line (Ended.Refused code) = refused_line code
ended_line (Ended.Cut left) = cut_line left
ended_line (Ended.Idle reads) = idle_line reads
ended_line (Ended.Spent octets) = spent_line octets

-- ---- causes

-- this holds of one of the links that were given in the run
abbrev pub OneOf : Seen → Seen → (Link → Type 0) → Type 0
OneOf before after P = (link : ℕ) × (before.counts.given ≤ link) × (link < after.counts.given)
    × P (after.state link)

-- this holds of each of them
abbrev pub EachOf : Seen → Seen → (Link → Type 0) → Type 0
EachOf before after P = (link : ℕ) → before.counts.given ≤ link → link < after.counts.given
    → P (after.state link)

-- what else a link shows of what ended its session: one call that failed, after which nothing was
-- called on it, so many quiet reads at its end and reads in all, or so many octets and as many reads
-- as these need, of which each gives `BUFFER` at most
abbrev pub LinkTells : Settings → Ended → Link → Type 0
LinkTells settings Ended.Released link = Unit {0}
LinkTells settings (Ended.Broken rule place) link = Unit {0}
LinkTells settings Ended.WriteFault link = Unit {0}
LinkTells settings Ended.WireFault link = link.faults ≡ 1
LinkTells settings Ended.NoMemory link = Unit {0}
LinkTells settings (Ended.Refused code) link = Unit {0}
LinkTells settings (Ended.Cut left) link = Unit {0}
LinkTells settings (Ended.Idle reads) link = (reads ≡ settings.idle)
    × IsQuiet settings.idle link.log × (settings.idle ≤ link.reads)
LinkTells settings (Ended.Spent octets) link = (octets ≡ settings.octets)
    × HasRead settings.octets link.log × (settings.octets ≤ BUFFER * link.reads)

-- what ended a session shows in its link, whose log needn't be known: the link has ended where that
-- cut the session, and only there; a call failed only where that ended the session; and what else
-- it tells
pub record HasCause (settings : Settings) (cause : Ended) (link : Link) : Type 0 where
  pub cut : link.has_ended ≡ is_cut cause
  pub unfailed : cause ≢ Ended.WireFault → link.faults ≡ 0
  pub because : LinkTells settings cause link

-- the log of a link, where it is known, shows that the session of an end of this role ended so
abbrev pub ShowsIn : Role → Settings → Ended → Link → Type 0
ShowsIn role settings cause link = WhereKnown (Shows (terms_by role settings) cause) link.log

-- the session of an end of this role ended so, by its link and the log of that
abbrev pub EndsIn : Role → Settings → Ended → Link → Type 0
EndsIn role settings cause link = HasCause settings cause link × ShowsIn role settings cause link

-- what was written on each link that was given in the run is lawful, where its log is known
abbrev pub WritesLawfully : Role → Settings → Seen → Seen → Type 0
WritesLawfully role settings before after =
    EachOf before after (λ link. WhereKnown (IsLawfulOn (terms_by role settings)) link.log)

-- each link that was given in the run is shut
abbrev pub AreShut : Seen → Seen → Type 0
AreShut before after = EachOf before after (λ link. link.is_open ≡ false)

-- each link that was given in the run was read no more often than the settings allow
abbrev pub ReadsWithin : Settings → Seen → Seen → Type 0
ReadsWithin settings before after = EachOf before after (λ link. link.reads ≤ most_reads settings)

-- in the run no more links were given than so many
abbrev pub GivesAtMost : ℕ → Seen → Seen → Type 0
GivesAtMost most before after = after.counts.given ≤ before.counts.given + most

-- what ended one of the sessions of a run shows in its link; where they were released, in each
abbrev pub SessionCause : Ended → Role → Settings → Seen → Seen → Type 0
SessionCause Ended.Released role settings before after =
    EachOf before after (EndsIn role settings Ended.Released)
SessionCause (Ended.Broken rule place) role settings before after =
    OneOf before after (EndsIn role settings (Ended.Broken rule place))
SessionCause Ended.WriteFault role settings before after = Unit {0}
SessionCause Ended.WireFault role settings before after =
    OneOf before after (EndsIn role settings Ended.WireFault)
SessionCause Ended.NoMemory role settings before after = Unit {0}
SessionCause (Ended.Refused code) role settings before after =
    OneOf before after (EndsIn role settings (Ended.Refused code))
SessionCause (Ended.Cut left) role settings before after =
    OneOf before after (EndsIn role settings (Ended.Cut left))
SessionCause (Ended.Idle reads) role settings before after =
    RoseBy settings.idle before.counts.quiets after.counts.quiets
    × OneOf before after (EndsIn role settings (Ended.Idle reads))
SessionCause (Ended.Spent octets) role settings before after =
    OneOf before after (EndsIn role settings (Ended.Spent octets))

-- no further link is accepted after a session that ended so
abbrev pub ends_run : Ended → Bool
ends_run Ended.Released = false
ends_run (Ended.Broken rule place) = false
ends_run Ended.WriteFault = true
ends_run Ended.WireFault = false
ends_run Ended.NoMemory = true
ends_run (Ended.Refused code) = false
ends_run (Ended.Cut left) = false
ends_run (Ended.Idle reads) = false
ends_run (Ended.Spent octets) = false

-- what ended a run of so many sessions: no link was given, for this reason; or a session ended so,
-- and where that doesn't end the run, all of them were
pub data RunCause (asked : Type 0) (sessions : ℕ) (cause : Ended) (role : Role)
    (settings : Settings) (before after : Seen) : Type 0 where
  asking : cause ≡ Ended.WireFault → asked
      → RunCause asked sessions cause role settings before after
  session : SessionCause cause role settings before after
      → (ends_run cause ≡ false → after.counts.given ≡ before.counts.given + sessions)
      → RunCause asked sessions cause role settings before after

-- the run dialled once, or a dial failed, and gave no link
abbrev pub SendCause : Ended → Settings → Seen → Seen → Type 0
SendCause cause settings before after =
    RunCause (Rose before.counts.dials after.counts.dials
    × (after.counts.given ≡ before.counts.given)) 1 cause Role.Initiator settings before after

-- a run of `send` that ended with a release sent all of these lines: the log of its link shows
-- each, once and in order, where it is known; whatever ended it, the sender of these lines kept its
-- whole part there, and had nothing to send where the settings ended it; no more was read than
-- these allow; and the peer refused nothing where that didn't end it, nor wherever was read
pub record SendsLines (cause : Ended) (settings : Settings) (lines : List (List ℕ))
    (before after : Seen) : Type 0 where
  pub all : cause ≡ Ended.Released
      → EachOf before after (λ link. WhereKnown (SendsAll (sender_plan settings lines)) link.log)
  pub unrefused : EachOf before after
      (λ link. WhereKnown (GoesUnrefused (terms_by Role.Initiator settings) cause) link.log)
  pub waits : EachOf before after
      (λ link. WhereKnown (ReadsOnlyGoing (terms_by Role.Initiator settings)) link.log)
  pub bounded : EachOf before after (λ link. IsBounded (reads_of settings) link.log)
  pub rested : EachOf before after (λ link. WhereKnown (λ log.
      TellsIdle (sender_plan settings lines) cause (moments log)) link.log)
  pub each : EachOf before after
      (λ link. WhereKnown (EachEndOn (sender_plan settings lines) cause) link.log)

-- as many links were accepted as the settings say, or an accept failed
abbrev pub ListenCause : Ended → Settings → Seen → Seen → Type 0
ListenCause cause settings before after =
    RunCause (Rose before.counts.accepts after.counts.accepts) settings.sessions cause Role.Listener
    settings before after

-- a call that asked for a link gave one
abbrev pub GaveLink : Asked → Type 0
GaveLink asked = (link : ℕ) × (asked.link ≡ Some link)

-- of calls that asked for links, the latest first, each gave one, but perhaps the latest
abbrev pub GaveBefore : List Asked → Type 0
GaveBefore [] = Unit {0}
GaveBefore (latest ∷ earlier) = AllByRecursion GaveLink earlier

-- where the accepts and dials are known, there were no more than so many, of each this holds, and
-- none came after one that failed
abbrev pub AsksOnly : (Asked → Type 0) → ℕ → Option (List Asked) → Option (List Asked) → Type 0
AsksOnly P most None None = Unit {0}
AsksOnly P most None (Some new) = ⊥
AsksOnly P most (Some old) None = ⊥
AsksOnly P most (Some old) (Some new) = (more : List Asked) × (new ≡ more ++ old)
    × (length more ≤ most) × AllByRecursion P more × GaveBefore more

-- a dial of the host and the port of these settings, beside so many open links
abbrev pub IsDialOf : Settings → ℕ → Asked → Type 0
IsDialOf settings open_links asked = (host : List ℕ) × (chars host ≡ settings.host)
    × (asked.ask ≡ dial host settings.port) × (asked.beside ≡ open_links)

-- an accept on the address and the port of these settings, beside so many open links
abbrev pub IsAcceptOf : Settings → ℕ → Asked → Type 0
IsAcceptOf settings open_links asked = (bind : List ℕ) × (chars bind ≡ settings.bind)
    × (asked.ask ≡ accept bind settings.port) × (asked.beside ≡ open_links)

-- `send` dials the host and the port of its settings, at most once
abbrev pub DialsOnce : Settings → Seen → Seen → Type 0
DialsOnce settings before after =
    AsksOnly (IsDialOf settings (open_of before)) 1 before.asked after.asked

-- `listen` accepts on the address and the port of its settings, at most as often as these say, and
-- never after an accept that failed; beside no more open links than before the run: it has shut
-- each link before it accepts the next
abbrev pub AcceptsAtMost : Settings → Seen → Seen → Type 0
AcceptsAtMost settings before after =
    AsksOnly (IsAcceptOf settings (open_of before)) settings.sessions before.asked after.asked

-- ---- `send`

-- a report of `send`, its status and its cause: its lines were those of the input, and its session
-- ended, with the last line or the record that is due, none where memory ran out, and after all
-- lines where it was released; or a line or a read stopped it, and no link was asked for
pub data IsSendReport (settings : Settings) (old new : SourceState) (before after : Seen)
    (octets text : List ℕ) (status : ℕ) : Type 0 where
  over : HasEnded new → (lines : List (List ℕ)) → AreLines lines octets → (cause : Ended)
      → cause ≢ Ended.WriteFault → (cause ≡ Ended.NoMemory → text ≡ [])
      → SendCause cause settings before after
      → SendsLines cause settings lines before after → status ≡ ended_status cause
      → IsEnding settings.recording Role.Initiator before after status (ended_line cause) text
      → IsSendReport settings old new before after octets text status
  bad_input : (number : ℕ) → IsBad octets number new → status ≡ 2 → text ≡ bad_line number
      → after ≡ before → IsSendReport settings old new before after octets text status
  unread_input : Rose old.faults new.faults → status ≡ 4 → text ≡ read_fault_line → after ≡ before
      → IsSendReport settings old new before after octets text status

-- the text begins the report of a status whose cause holds, and something is due to be written
pub record BeginsSendReport (settings : Settings) (old new : SourceState) (before after : Seen)
    (octets text : List ℕ) : Type 0 where
  pub status : ℕ
  pub others : List ℕ
  pub some : text ++ others ≢ []
  pub report : IsSendReport settings old new before after octets (text ++ others) status

-- no link was asked for; or the input has ended, and the lines of these octets, all of it, were
-- sent, as far as a session goes that ended so
abbrev pub KeepsInput : Settings → SourceState → Seen → Seen → List ℕ → Type 0
KeepsInput settings new before after octets = (after ≡ before)
    ⊎ HasEnded new × (lines : List (List ℕ)) × AreLines lines octets
    × (cause : Ended) × SendsLines cause settings lines before after

-- what a run of `send` that ended so reports: a status with its report; 5, where a write failed; 7,
-- where it was out of memory, and still sent nothing but its lines
pub data Sent (settings : Settings) (before after : Seen) (status : ℕ) (run : Run) : Type 0 where
  send_written : Saw (λ octets text.
      IsSendReport settings run.source run.source_after before after octets text status) run
      → Sent settings before after status run
  send_begun : status ≡ 5 → Rose run.sink.faults run.sink_after.faults
      → Saw (BeginsSendReport settings run.source run.source_after before after) run
      → Sent settings before after status run
  send_starved : status ≡ 7
      → Saw (λ octets text.
      (text ≡ []) × KeepsInput settings run.source_after before after octets) run
      → Sent settings before after status run

-- ---- `listen`

-- what was written since then ends with this line
abbrev pub EndsWith : List ℕ → SinkState → SinkState → Type 0
EndsWith line old new = (more : List ℕ) × Appends old.written new.written (more ++ line)

-- what a run of `listen` that ended so shows: 5, where a write failed; 7, where it was out of
-- memory; else what ended its first session that wasn't released, or the last accept, whose last
-- line was written, unless the run was recorded
pub data Listened (settings : Settings) (before after : Seen) (status : ℕ) (run : Run)
    : Type 0 where
  listen_written : (cause : Ended) → cause ≢ Ended.WriteFault → cause ≢ Ended.NoMemory
      → ListenCause cause settings before after → status ≡ ended_status cause
      → (settings.recording ≡ false → EndsWith (ended_line cause) run.sink run.sink_after)
      → Listened settings before after status run
  listen_unwritten : status ≡ 5 → Rose run.sink.faults run.sink_after.faults
      → Listened settings before after status run
  listen_starved : status ≡ 7 → Listened settings before after status run

-- ---- last lines

-- a last line was written, and the status is its own; or there is one, its write failed, and the
-- status is 5
pub data WritesLast (status : ℕ) (line : List ℕ) (result : ℕ) (old new : SinkState) : Type 0 where
  whole_line : result ≡ status → Appends old.written new.written line
      → WritesLast status line result old new
  line_begun : result ≡ 5 → line ≢ [] → Rose old.faults new.faults
      → AppendsPrefix old.written new.written line
      → WritesLast status line result old new
