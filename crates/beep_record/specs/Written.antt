-- What a record that is written holds of a log: pieces may be cut into lines, which the flat log
-- doesn't show.
-- The code cuts each piece as it writes it.
use Rattle.std.specs.Prelude.{◌≡◌, ℕ, List, [], ◌∷◌, ◌++◌, None}
use Rattle.beep_journal.specs.declared.role.Role.{Role}
use Rattle.beep_journal.specs.Log.{Entry, flat}
use Rattle.beep_record.specs.Record.{IsRecord, IsOrdered, ArePieces, has_ended, log_text, record_text}

-- the lines stand for an entry after any log, and are that entry where one line has room for it
pub record StandFor (lines : List Entry) (entry : Entry) : Type 0 where
  pub pieces : ArePieces lines
  pub ended : (log : List Entry) → has_ended (lines ++ log) ≡ has_ended (entry ∷ log)
  pub ordered : (log : List Entry) → IsOrdered (entry ∷ log) → IsOrdered (lines ++ log)
  pub flat_is : (log : List Entry) → flat (lines ++ log) ≡ flat (entry ∷ log)
  pub same : ArePieces (entry ∷ []) → lines ≡ entry ∷ []

-- the octets gained are lines that stand for the entry
pub record HasLines (entry : Entry) (old new : List ℕ) : Type 0 where
  pub lines : List Entry
  pub stand : StandFor lines entry
  pub text_is : new ≡ old ++ log_text lines

-- the octets gained are a record of the same flat log, and of the log itself where each piece has a
-- line
pub record Writes (role : Role) (log : List Entry) (old new : List ℕ) : Type 0 where
  pub lines : List Entry
  pub is_record : IsRecord (record { role = role; log = lines; status = None })
  pub flat_is : flat lines ≡ flat log
  pub same : ArePieces log → lines ≡ log
  pub text_is : new ≡ old ++ record_text (record { role = role; log = lines; status = None })
