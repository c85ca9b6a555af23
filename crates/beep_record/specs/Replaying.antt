-- What a replayer stands for after a part of the log, for the proofs.
use Rattle.std.specs.Prelude.{◌≡◌, ℕ, List, ◌++◌, None}
use Rattle.beep_history.specs.declared.journal.Side.{Side}
use Rattle.beep_journal.specs.Log.{Moment, got_all, put_all}
use Rattle.beep_journal.specs.Broken.{none_tunes}
use Rattle.beep_journal.specs.Journal.{Past, Shows}
use Rattle.beep_journal.specs.Texts.{lines}
use Rattle.beep_judge.specs.Judges.{Judges}
use Rattle.beep_judge.specs.Kept.{under_way_of}
use Rattle.beep_record.specs.declared.replayer.Replayer.{Replayer}
use Rattle.beep_record.specs.Verdicts.{verdict_of}
use Rattle.beep_record.specs.Following.{IsSide}

-- octets of a side after a log
abbrev pub many : Side → List ℕ → List Moment → List Moment
many Side.Received octets log = got_all octets log
many Side.Sent octets log = put_all octets log

-- both sides and the judge stand for a session that goes on
pub record IsBoth (r : Replayer) (past : Past) : Type 0 where
  pub received : IsSide Side.Received r.received (under_way_of Side.Received r.judge) past
  pub sent : IsSide Side.Sent r.sent (under_way_of Side.Sent r.judge) past
  pub judged : Judges r.judge past.journal

-- the replayer stands for the session that the log shows, and its lines were written
pub record Follows (r : Replayer) (log : List Moment) (old now : List ℕ) : Type 0 where
  pub past : Past
  pub shows : Shows none_tunes log past
  pub verdict_is : r.verdict ≡ verdict_of past.fault
  pub both : past.fault ≡ None → IsBoth r past
  pub text_is : now ≡ old ++ lines past.journal

-- it stands for some log
pub record HasLog (r : Replayer) (now : List ℕ) : Type 0 where
  pub log : List Moment
  pub old : List ℕ
  pub follows : Follows r log old now

-- the lines of the session after an earlier part of the log were written
pub record Stopped (log : List Moment) (old now : List ℕ) : Type 0 where
  pub later : List Moment
  pub before : List Moment
  pub whole : log ≡ later ++ before
  pub past : Past
  pub shows : Shows none_tunes before past
  pub text_is : now ≡ old ++ lines past.journal
