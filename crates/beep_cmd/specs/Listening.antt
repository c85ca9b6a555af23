-- What a run of `listen` writes: the lines that came, link by link, and then its last line (RFC
-- 3195, section 3).
-- The code writes as it hears, and keeps no text; here each link's log is gone over when all are
-- shut.
use Rattle.std.specs.Prelude.{◌≡◌, ◌⊎◌, ℕ, ◌+◌, ◌≤◌, ◌<◌, false, if◌then◌else◌, List, [], ◌∷◌, ◌++◌}
use Rattle.std.specs.Io.KnownBytes.{Appends}
use Rattle.beep_runs.specs.beep_wires.specs.Counts.{Rose}
use Rattle.beep_runs.specs.beep_wires.specs.Log.{Entry}
use Rattle.beep_runs.specs.beep_wires.specs.Links.{Link}
use Rattle.beep_runs.specs.beep_wires.specs.States.{SinkState}
use Rattle.beep_runs.specs.beep_journal.specs.declared.role.Role.{Role}
use Rattle.beep_runs.specs.beep_settings.specs.declared.settings.Settings.{Settings}
use Rattle.beep_runs.specs.beep_link.specs.declared.ended.Ended.{Ended}
use Rattle.beep_runs.specs.beep_link.specs.Causes.{IsWithin, Seen, WhereKnown}
use Rattle.beep_runs.specs.beep_steps.specs.Refusing.{GoesUnrefused, ReadsOnlyGoing}
use Rattle.beep_runs.specs.beep_steps.specs.EachEnd.{EachEndOn}
use Rattle.beep_runs.specs.beep_steps.specs.Ends.{reads_of}
use Rattle.beep_runs.specs.beep_steps.specs.Logs.{moments, Shows, terms_by}
use Rattle.beep_runs.specs.beep_steps.specs.Resting.{TellsIdle}
use Rattle.beep_runs.specs.beep_listener.specs.Listening.{is_whole, listener_plan, AreLinesOf, HasLinesOf, KeepsWhere}
use Rattle.beep_cmd.specs.Ends.{ended_line, ended_status, ends_run, HasCause, WritesLast}

-- ---- what ends a run

-- the first of two ends that isn't a release
abbrev pub first_of : Ended → Ended → Ended
first_of Ended.Released ended = ended
first_of (Ended.Broken rule place) ended = Ended.Broken rule place
first_of Ended.WriteFault ended = Ended.WriteFault
first_of Ended.WireFault ended = Ended.WireFault
first_of Ended.NoMemory ended = Ended.NoMemory
first_of (Ended.Refused code) ended = Ended.Refused code
first_of (Ended.Cut left) ended = Ended.Cut left
first_of (Ended.Idle reads) ended = Ended.Idle reads
first_of (Ended.Spent octets) ended = Ended.Spent octets

-- one session of a run: what ended it, and what was written of it
pub record Session : Type 0 where
  pub cause : Ended
  pub text : List ℕ

-- what sessions say of their run, the latest first: what ended the one after which no link is
-- accepted, or else the first that wasn't released
abbrev pub run_cause : List Session → Ended
run_cause [] = Ended.Released
run_cause (session ∷ earlier) =
    if ends_run session.cause then session.cause else first_of (run_cause earlier) session.cause

-- ---- what is written

-- what was written of a session is the lines that its log shows, or a beginning of them where it
-- ended out of memory or by a fault of the output, which has the lines of the log before its latest
-- read; what was sent in each life, channel zero among them, is the beginning of its script, and
-- nothing of that was due where the settings ended it; no more was read than these allow; the peer
-- refused nothing where that didn't end it; and wherever was read the session went on, and the peer
-- had refused nothing
pub record WritesOf (settings : Settings) (session : Session) (log : List Entry) : Type 0 where
  pub shows : Shows (terms_by Role.Listener settings) session.cause log
  pub lines : AreLinesOf (listener_plan settings) (is_whole session.cause) (moments log)
      session.text
  pub flushed : KeepsWhere (HasLinesOf (listener_plan settings) session.text) session.cause log
  pub unrefused : GoesUnrefused (terms_by Role.Listener settings) session.cause log
  pub waits : ReadsOnlyGoing (terms_by Role.Listener settings) log
  pub bounded : IsWithin (reads_of settings) log
  pub rested : TellsIdle (listener_plan settings) session.cause (moments log)
  pub each : EachEndOn (listener_plan settings) session.cause log

-- the sessions over the links from this number on up to another, the latest first, what ended each
-- of which shows in its link
abbrev pub SessionsOver : Settings → (ℕ → Link) → ℕ → List Session → ℕ → Type 0
SessionsOver settings state first [] next = next ≡ first
SessionsOver settings state first (session ∷ earlier) next = (link : ℕ) × (next ≡ link + 1)
    × (ends_run (run_cause earlier) ≡ false)
    × WhereKnown (WritesOf settings session) (state link).log
    × HasCause settings session.cause (state link)
    × SessionsOver settings state first earlier link

-- what was written of all of them
abbrev pub text_of : List Session → List ℕ
text_of [] = []
text_of (session ∷ earlier) = text_of earlier ++ session.text

-- what ends the run is what its sessions say, and all of them were where none ended the run; or an
-- accept that gave no link, since it failed, or was out of memory where more links were still to be
-- accepted; or the run was out of memory before it did anything
abbrev pub EndsBy : Settings → Seen → Seen → Ended → List Session → Type 0
EndsBy settings before after cause sessions = (cause ≡ run_cause sessions)
    × (ends_run cause ≡ false → after.counts.given ≡ before.counts.given + settings.sessions)
    ⊎ (ends_run (run_cause sessions) ≡ false)
    × ((cause ≡ Ended.WireFault) × Rose before.counts.accepts after.counts.accepts
    ⊎ (cause ≡ Ended.NoMemory)
    × ((after.counts.given < before.counts.given + settings.sessions) ⊎ (after ≡ before)))

-- a run of so many sessions wrote what each of them did, one after another, of which the log of its
-- link shows the lines where it is known, and then the last line of what ended the run; or where a
-- write of that failed, a beginning of it
pub record WritesLines (settings : Settings) (before after : Seen) (status : ℕ)
    (old new : SinkState) : Type 0 where
  pub sessions : List Session
  pub over : SessionsOver settings after.state before.counts.given sessions after.counts.given
  pub cause : Ended
  pub ends : EndsBy settings before after cause sessions
  pub middle : SinkState
  pub kept : old.faults ≤ middle.faults
  pub lines : Appends old.written middle.written (text_of sessions)
  pub last : WritesLast (ended_status cause) (ended_line cause) status middle new
