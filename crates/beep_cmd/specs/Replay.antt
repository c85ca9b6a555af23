-- What `replay` says of the octets that it read, status by status (RFC 3080, section 2.2.1).
-- Each report is over the whole input, the record of one session; the code judges octet by octet.
use Rattle.std.specs.Prelude.{◌≡◌, ℕ, ◌+◌, ◌≤◌, List, [], ◌++◌, length, None, Some}
use Rattle.beep_runs.specs.beep_history.specs.declared.journal.Side.{Side}
use Rattle.beep_runs.specs.beep_journal.specs.declared.role.Role.{Role}
use Rattle.beep_runs.specs.beep_journal.specs.Log.{Entry, flat}
use Rattle.beep_runs.specs.beep_journal.specs.Broken.{none_tunes}
use Rattle.beep_runs.specs.beep_journal.specs.Journal.{Past, Fault, Shows}
use Rattle.beep_runs.specs.beep_journal.specs.Texts.{report}
use Rattle.beep_runs.specs.beep_record.specs.Record.{Says, Stops}
use Rattle.beep_runs.specs.beep_wires.specs.Counts.{Rose}
use Rattle.beep_runs.specs.beep_wires.specs.States.{SourceState}
use Rattle.beep_show.specs.beep_input.specs.declared.whole.TheConstants.{MAX_INPUT}
use Rattle.beep_show.specs.Texts.{bad_line, broken_line, written_line, read_fault_line}
use Rattle.beep_show.specs.Show.{Run, Saw}
use Rattle.beep_show.specs.beep_input.specs.Whole.{HasEnded}

-- the octets are a record within the limit, whose log shows this session; no start is tuning
pub record IsSession (octets : List ℕ) (past : Past) : Type 0 where
  pub within : length octets ≤ MAX_INPUT
  pub role : Role
  pub log : List Entry
  pub says : Says octets role log
  pub shows : Shows none_tunes (flat log) past

-- status 0: a record whose session breaks no rule, and its report
pub record IsFine (octets text : List ℕ) : Type 0 where
  pub past : Past
  pub session : IsSession octets past
  pub no_fault : past.fault ≡ None
  pub text_is : text ≡ report past

-- status 3: the peer broke a rule first, at the octet of its own whose number is printed
pub record IsPeerFault (octets text : List ℕ) : Type 0 where
  pub past : Past
  pub session : IsSession octets past
  pub fault : Fault
  pub fault_is : past.fault ≡ Some fault
  pub side : fault.side ≡ Side.Received
  pub text_is : text ≡ report past ++ broken_line fault.rule fault.place

-- status 2: the recorded end broke a rule first, at the octet of its own whose number is printed
pub record IsOwnFault (octets text : List ℕ) : Type 0 where
  pub past : Past
  pub session : IsSession octets past
  pub fault : Fault
  pub fault_is : past.fault ≡ Some fault
  pub side : fault.side ≡ Side.Sent
  pub text_is : text ≡ report past ++ written_line fault.rule fault.place

-- status 2: no record has the octets up to the one whose number is printed, or the input ends there
-- too soon
pub record IsBad (octets text : List ℕ) : Type 0 where
  pub within : length octets ≤ MAX_INPUT
  pub place : ℕ
  pub stops : Stops octets place
  pub text_is : text ≡ bad_line place

-- status 2: the input is longer than any that is read, whatever stands in it
pub record IsLong (octets text : List ℕ) : Type 0 where
  pub long : length octets ≡ MAX_INPUT + 1
  pub text_is : text ≡ bad_line MAX_INPUT

-- status 4: a read failed, and nothing else is said
pub record IsUnread (octets text : List ℕ) : Type 0 where
  pub within : length octets ≤ MAX_INPUT
  pub text_is : text ≡ read_fault_line

-- ---- all reports

-- a report of a whole input, and its status
pub data IsJudgement (octets text : List ℕ) (status : ℕ) : Type 0 where
  fine : status ≡ 0 → IsFine octets text → IsJudgement octets text status
  peer_fault : status ≡ 3 → IsPeerFault octets text → IsJudgement octets text status
  own_fault : status ≡ 2 → IsOwnFault octets text → IsJudgement octets text status
  bad : status ≡ 2 → IsBad octets text → IsJudgement octets text status

-- a report, its status and its cause, of a source before the run and after it
pub data IsReplayReport (old new : SourceState) (octets text : List ℕ) (status : ℕ) : Type 0 where
  judged : HasEnded new → IsJudgement octets text status → IsReplayReport old new octets text status
  long : status ≡ 2 → IsLong octets text → IsReplayReport old new octets text status
  unread : status ≡ 4 → Rose old.faults new.faults → IsUnread octets text
      → IsReplayReport old new octets text status

-- the text begins the report of a status whose cause holds
pub record BeginsReport (old new : SourceState) (octets text : List ℕ) : Type 0 where
  pub status : ℕ
  pub after : List ℕ
  pub report : IsReplayReport old new octets (text ++ after) status

-- some of the input was read, and nothing is said of it
pub record IsSilent (octets text : List ℕ) : Type 0 where
  pub within : length octets ≤ MAX_INPUT
  pub none : text ≡ []

-- what a run of `replay` that ended so reports: a status with its report; 5, where a write failed;
-- 7, where it was out of memory
pub data Replayed (status : ℕ) (run : Run) : Type 0 where
  reported : Saw (λ octets text. IsReplayReport run.source run.source_after octets text status) run
      → Replayed status run
  cut_short : status ≡ 5 → Rose run.sink.faults run.sink_after.faults
      → Saw (BeginsReport run.source run.source_after) run → Replayed status run
  starved : status ≡ 7 → Saw IsSilent run → Replayed status run

-- ---- when all went well

-- the input is a record within the limit, in whose session neither side breaks a rule
pub record IsLawful (octets : List ℕ) : Type 0 where
  pub past : Past
  pub session : IsSession octets past
  pub no_fault : past.fault ≡ None
