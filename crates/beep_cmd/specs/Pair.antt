-- What `pair` says of a schedule, status by status: the report of its run between two ends in
-- memory, or its first bad line. With a seed nothing is read, and it is the summary of the report
-- of the schedule that the number makes.
-- What holds of the world that a run leads to is part of its report (`Reported` of beep_pair).
use Rattle.std.specs.Prelude.{◌≡◌, ℕ, ◌≤◌, List, [], ◌++◌, length, Option, None, Some}
use Rattle.beep_runs.specs.beep_wires.specs.Counts.{Rose}
use Rattle.beep_runs.specs.beep_wires.specs.States.{SourceState}
use Rattle.beep_show.specs.beep_input.specs.Whole.{HasEnded}
use Rattle.beep_show.specs.beep_input.specs.Lines.{IsPastAt}
use Rattle.beep_show.specs.beep_input.specs.declared.whole.TheConstants.{MAX_INPUT}
use Rattle.beep_runs.specs.beep_session.specs.declared.limits.Limits.{Limits}
use Rattle.beep_schedule.specs.declared.event.PairEvent.{PairEvent}
use Rattle.beep_schedule.specs.Schedule.{Says}
use Rattle.beep_schedule.specs.Refused.{IsBadAt}
use Rattle.beep_pair.specs.Command.{Reports, Sums}
use Rattle.beep_show.specs.beep_words.specs.declared.command.PairSettings.{PairSettings}
use Rattle.beep_show.specs.Texts.{bad_line, read_fault_line}
use Rattle.beep_show.specs.Show.{Run, Saw}

-- what both ends set for themselves
abbrev pub limits_of : PairSettings → Limits
limits_of settings = record { window = settings.window; piece = settings.piece }

-- ---- a schedule that is read

-- status 2: the text says no events, and the line whose number is printed is its first bad one
pub record IsBadSchedule (octets text : List ℕ) : Type 0 where
  pub number : ℕ
  pub none : (events : List PairEvent) → Says octets events → ⊥
  pub bad : IsBadAt octets number
  pub text_is : text ≡ bad_line number

-- status 2: the first octet past those that are kept stands in the line whose number is printed
pub record IsLongSchedule (octets text : List ℕ) : Type 0 where
  pub number : ℕ
  pub past : IsPastAt octets number
  pub text_is : text ≡ bad_line number

-- a report of a whole input, and its status
pub data IsPairing (settings : PairSettings) (octets text : List ℕ) (status : ℕ) : Type 0 where
  runs : status ≡ 0 → Reports (limits_of settings) octets text
      → IsPairing settings octets text status
  bad_schedule : status ≡ 2 → IsBadSchedule octets text → IsPairing settings octets text status

-- a report, its status and its cause, of a source before the run and after it
pub data ReadsSchedule (settings : PairSettings) (old new : SourceState) (octets text : List ℕ)
    (status : ℕ) : Type 0 where
  whole : HasEnded new → length octets ≤ MAX_INPUT → IsPairing settings octets text status
      → ReadsSchedule settings old new octets text status
  long : status ≡ 2 → IsLongSchedule octets text
      → ReadsSchedule settings old new octets text status
  unread : status ≡ 4 → Rose old.faults new.faults → length octets ≤ MAX_INPUT
      → text ≡ read_fault_line → ReadsSchedule settings old new octets text status

-- ---- all reports

-- without a seed the input is read; with one it isn't, and status 0 has the summary of the report
-- of the schedule that the number makes
pub data IsPairReport (settings : PairSettings) (old new : SourceState) (octets text : List ℕ)
    (status : ℕ) : Type 0 where
  read : settings.seed ≡ None → ReadsSchedule settings old new octets text status
      → IsPairReport settings old new octets text status
  made : (seed : ℕ) → settings.seed ≡ Some seed → status ≡ 0 → octets ≡ []
      → Sums (limits_of settings) seed text → IsPairReport settings old new octets text status

-- the text begins the report of a status whose cause holds
pub record BeginsPairReport (settings : PairSettings) (old new : SourceState)
    (octets text : List ℕ) : Type 0 where
  pub status : ℕ
  pub after : List ℕ
  pub report : IsPairReport settings old new octets (text ++ after) status

-- some of the input was read, and nothing is said of it
pub record IsUnsaid (octets text : List ℕ) : Type 0 where
  pub within : length octets ≤ MAX_INPUT
  pub none : text ≡ []

-- what a run of `pair` that ended so reports: a status with its report; 5, where a write failed; 7,
-- where it was out of memory
pub data Paired (settings : PairSettings) (status : ℕ) (run : Run) : Type 0 where
  reported : Saw (λ octets text.
      IsPairReport settings run.source run.source_after octets text status) run
      → Paired settings status run
  cut_short : status ≡ 5 → Rose run.sink.faults run.sink_after.faults
      → Saw (BeginsPairReport settings run.source run.source_after) run
      → Paired settings status run
  starved : status ≡ 7 → Saw IsUnsaid run → Paired settings status run

-- ---- when all went well

-- the input is a schedule within the limit
pub record IsSchedule (octets : List ℕ) : Type 0 where
  pub within : length octets ≤ MAX_INPUT
  pub events : List PairEvent
  pub says : Says octets events

-- a number is set, or the input is known and is a schedule
pub data IsRunnable (settings : PairSettings) (left : Option (List ℕ)) : Type 0 where
  by_seed : (seed : ℕ) → settings.seed ≡ Some seed → IsRunnable settings left
  by_input : (octets : List ℕ) → left ≡ Some octets → IsSchedule octets
      → IsRunnable settings left
