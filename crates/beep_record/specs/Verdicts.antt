-- What a record is replayed to: the report and the verdict of the session that its log shows (RFC
-- 3080, section 2.2.1).
-- The code judges step by step of a decoder, and writes each line as its frame passes.
use Rattle.std.specs.Prelude.{◌≡◌, ℕ, List, [], ◌++◌, Option, None, Some}
use Rattle.beep_frame.specs.declared.rule.Rule.{Rule}
use Rattle.beep_frame.specs.Modulo.{modulo_2_64}
use Rattle.beep_history.specs.declared.journal.Side.{Side}
use Rattle.beep_journal.specs.Log.{Entry, flat}
use Rattle.beep_journal.specs.Broken.{none_tunes}
use Rattle.beep_journal.specs.Journal.{Fault, Past, Shows}
use Rattle.beep_journal.specs.Texts.{report}
use Rattle.beep_journal.specs.declared.role.Role.{Role}
use Rattle.beep_record.specs.declared.verdict.Verdict.{Verdict}
use Rattle.beep_record.specs.Record.{Says}

-- the verdict on a rule that a side broke, at a place modulo 2^64
abbrev pub verdict_on : Side → Rule → ℕ → Verdict
verdict_on Side.Received rule place = Verdict.Broken rule place
verdict_on Side.Sent rule place = Verdict.Written rule place

-- the verdict on a session with this first fault
abbrev pub verdict_of : Option Fault → Verdict
verdict_of None = Verdict.Fine
verdict_of (Some fault) = verdict_on fault.side fault.rule (modulo_2_64 fault.place)

-- the verdict where a side broke a rule or none
abbrev pub verdict_by : Side → Option Rule → ℕ → Verdict
verdict_by side None place = Verdict.Fine
verdict_by side (Some rule) place = verdict_on side rule place

-- the octets gained are the report of the session that the log shows, where no start is tuning, and
-- this is its verdict
pub record Replays (log : List Entry) (verdict : Verdict) (old new : List ℕ) : Type 0 where
  pub past : Past
  pub shows : Shows none_tunes (flat log) past
  pub verdict_is : verdict ≡ verdict_of past.fault
  pub text_is : new ≡ old ++ report past

-- the text says a log, and the report of its session is this, with this verdict
pub record ReplaysText (text : List ℕ) (verdict : Verdict) (said : List ℕ) : Type 0 where
  pub role : Role
  pub log : List Entry
  pub says : Says text role log
  pub replays : Replays log verdict [] said

-- the octets gained begin the text
pub record Begins (text old new : List ℕ) : Type 0 where
  pub gained : List ℕ
  pub others : List ℕ
  pub text_is : text ≡ gained ++ others
  pub new_is : new ≡ old ++ gained
