-- What octets of a text make of a reader that keeps no entry and of the session that it tells, for
-- the proofs alone.
use Rattle.std.specs.Prelude.{◌≡◌, ℕ, List, [], ◌++◌, Some}
use Rattle.beep_journal.specs.Log.{Entry, flat}
use Rattle.beep_record.specs.declared.replayer.Replayer.{Replayer}
use Rattle.beep_record.specs.declared.text_replayer.TextReplayer.{TextReplayer}
use Rattle.beep_record.specs.Machine.{State, run}
use Rattle.beep_record.specs.Reading.{state_of}
use Rattle.beep_record.specs.Replaying.{Follows}

-- the same after an earlier log
abbrev pub rebased : List Entry → State → State
rebased before s = record s { log = s.log ++ before }

-- the replayer stands for the session of some entries
pub record HasEntries (r : Replayer) (now : List ℕ) : Type 0 where
  pub log : List Entry
  pub old : List ℕ
  pub follows : Follows r (flat log) old now

-- the octets lead from one to the other with these entries, which were replayed and dropped
pub record ReplaysOn (old new : TextReplayer) (octets : List ℕ) : Type 0 where
  pub entries : List Entry
  pub ran : run (Some (state_of old.reader)) octets
      ≡ Some (record (state_of new.reader) { log = entries })
  pub none : new.reader.entries ≡ []
  pub follows : (log : List Entry) (report : List ℕ)
      → Follows old.replayer (flat log) report old.out.octets
      → Follows new.replayer (flat (entries ++ log)) report new.out.octets
