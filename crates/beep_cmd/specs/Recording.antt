-- How a run that is recorded ends: with its record, or a beginning of it.
-- The code makes the whole record before it writes any of it.
use Rattle.std.specs.Prelude.{◌≡◌, ◌≢◌, ℕ, true, List, []}
use Rattle.std.specs.Io.KnownBytes.{Appends}
use Rattle.beep_runs.specs.beep_journal.specs.declared.role.Role.{Role}
use Rattle.beep_runs.specs.beep_wires.specs.States.{SinkState}
use Rattle.beep_runs.specs.beep_link.specs.declared.ended.Ended.{Ended}
use Rattle.beep_runs.specs.beep_link.specs.Causes.{IsBounded, Seen, WhereKnown}
use Rattle.beep_runs.specs.beep_steps.specs.EachEnd.{EachEndOn}
use Rattle.beep_runs.specs.beep_steps.specs.Ends.{reads_of}
use Rattle.beep_runs.specs.beep_steps.specs.Logs.{moments, terms_by}
use Rattle.beep_runs.specs.beep_steps.specs.Refusing.{GoesUnrefused, ReadsOnlyGoing}
use Rattle.beep_runs.specs.beep_steps.specs.Resting.{TellsIdle}
use Rattle.beep_runs.specs.beep_listener.specs.Listening.{listener_plan}
use Rattle.beep_runs.specs.beep_settings.specs.declared.settings.Settings.{Settings}
use Rattle.beep_runs.specs.beep_wires.specs.Links.{Link}
use Rattle.beep_cmd.specs.Recorded.{IsEnding, IsRecordOf}
use Rattle.beep_cmd.specs.Ends.{ended_line, ended_status, EachOf, ListenCause, SendCause, SendsLines, WritesLast}

-- a run that is recorded was ended by a cause that holds, and what is due at its end was written,
-- or begun where the write failed; or it was out of memory, and wrote nothing, whatever ended it
pub data EndsRecorded (Cause : Ended → Type 0) (role : Role) (before after : Seen) (status : ℕ)
    (old new : SinkState) : Type 0 where
  record_written : (cause : Ended) → cause ≢ Ended.WriteFault → cause ≢ Ended.NoMemory → Cause cause
      → (text : List ℕ)
      → IsEnding true role before after (ended_status cause) (ended_line cause) text
      → WritesLast (ended_status cause) text status old new
      → EndsRecorded Cause role before after status old new
  record_starved : (cause : Ended) → Cause cause → status ≡ 7
      → Appends old.written new.written []
      → EndsRecorded Cause role before after status old new

-- a record of a link with a status was written, or begun; or memory ran out, and nothing was
pub data TellsWhole (role : Role) (link : Link) (status result : ℕ) (old new : SinkState)
    : Type 0 where
  whole_record : (text : List ℕ) → IsRecordOf role link status text
      → WritesLast status text result old new → TellsWhole role link status result old new
  no_record : result ≡ 7 → Appends old.written new.written []
      → TellsWhole role link status result old new

-- the same with the status of what ended a run; where memory ran out nothing is written
abbrev pub TellsRecord : Role → Link → Ended → ℕ → SinkState → SinkState → Type 0
TellsRecord role link Ended.Released result old new = TellsWhole role link 0 result old new
TellsRecord role link (Ended.Broken rule place) result old new =
    TellsWhole role link 3 result old new
TellsRecord role link Ended.WriteFault result old new = TellsWhole role link 5 result old new
TellsRecord role link Ended.WireFault result old new = TellsWhole role link 6 result old new
TellsRecord role link Ended.NoMemory result old new =
    (result ≡ 7) × Appends old.written new.written []
TellsRecord role link (Ended.Refused code) result old new = TellsWhole role link 8 result old new
TellsRecord role link (Ended.Cut left) result old new = TellsWhole role link 9 result old new
TellsRecord role link (Ended.Idle reads) result old new = TellsWhole role link 10 result old new
TellsRecord role link (Ended.Spent octets) result old new = TellsWhole role link 11 result old new

-- what a run of `send` that is recorded writes, and that it sent these lines
abbrev pub SendRecorded : Settings → List (List ℕ) → Seen → Seen → ℕ → SinkState → SinkState
    → Type 0
SendRecorded settings lines before after status old new =
    EndsRecorded (λ cause. SendCause cause settings before after
    × SendsLines cause settings lines before after) Role.Initiator before after status old new

-- the log of each link shows, where it is known, that a listener kept its script, channel zero
-- among its channels, that nothing of that was due where the settings ended the session, that no
-- more was read than these allow, that the peer refused nothing where that didn't end the session,
-- and that wherever was read the session went on, and the peer had refused nothing
pub record KeepsListening (cause : Ended) (settings : Settings) (before after : Seen) : Type 0 where
  pub unrefused : EachOf before after
      (λ link. WhereKnown (GoesUnrefused (terms_by Role.Listener settings) cause) link.log)
  pub waits : EachOf before after
      (λ link. WhereKnown (ReadsOnlyGoing (terms_by Role.Listener settings)) link.log)
  pub bounded : EachOf before after (λ link. IsBounded (reads_of settings) link.log)
  pub rested : EachOf before after (λ link. WhereKnown (λ log.
      TellsIdle (listener_plan settings) cause (moments log)) link.log)
  pub each : EachOf before after
      (λ link. WhereKnown (EachEndOn (listener_plan settings) cause) link.log)

-- what a run of `listen` that is recorded writes, and that it kept its script
abbrev pub ListenRecorded : Settings → Seen → Seen → ℕ → SinkState → SinkState → Type 0
ListenRecorded settings before after status old new =
    EndsRecorded (λ cause. ListenCause cause settings before after
    × KeepsListening cause settings before after) Role.Listener before after status old new
