-- The text of a record: which log it says, and where a text that says none is refused
-- (docs/FORMATS.md, "Records").
-- The reader takes one octet at a time; here a record is a value, its one text, and which values
-- are valid.
use Rattle.std.specs.Prelude.{◌≡◌, ℕ, suc, ◌+◌, ◌/◌, ◌%◌, ◌<◌, ◌≤◌, Bool, true, false, not, ◌&&◌, nat_le, nat_lt, ◌==◌, IsTrue, if◌then◌else◌, List, [], ◌∷◌, ◌++◌, length, take, flat_map, Option, None, Some, codes}
use Rattle.std.specs.List.{list_all}
use Rattle.std.specs.Fmt.{decimal}
use Rattle.beep_history.specs.declared.journal.Side.{Side}
use Rattle.beep_journal.specs.declared.role.Role.{Role}
use Rattle.beep_journal.specs.Log.{Entry, read, wrote, quiet, ended}
use Rattle.beep_record.specs.declared.limits.TheConstants.{MAX_ENTRY, MAX_STATUS}
use Rattle.beep_octets.specs.Numbers.{numbers_8}

-- ---- an octet

-- the octet stands for itself: printable ASCII other than `\`
abbrev pub is_plain : ℕ → Bool
is_plain octet = nat_le 32 octet && nat_le octet 126 && not (octet == 92)

-- a hexadecimal digit, in lower case
abbrev pub hex_digit : ℕ → ℕ
hex_digit n = if nat_lt n 10 then 48 + n else 87 + n

-- an octet as it is written: itself, CR, LF and `\` by a letter, every other one by two digits
unfoldable pub octet_text : ℕ → List ℕ
octet_text octet =
    if is_plain octet then octet ∷ []
    else if octet == 13 then codes "\\r"
    else if octet == 10 then codes "\\n"
    else if octet == 92 then codes "\\\\"
    else 92 ∷ hex_digit (octet / 16) ∷ hex_digit (octet % 16) ∷ []

-- octets as they are written
abbrev pub octets_text : List ℕ → List ℕ
octets_text octets = flat_map octet_text octets

-- ---- lines

-- the entry of octets that were received or sent
abbrev pub piece_of : Side → List ℕ → Entry
piece_of Side.Received octets = read octets
piece_of Side.Sent octets = wrote octets

-- the line of an entry
abbrev pub entry_text : Entry → List ℕ
entry_text (read octets) = codes "R " ++ octets_text octets ++ 10 ∷ []
entry_text (wrote octets) = codes "W " ++ octets_text octets ++ 10 ∷ []
entry_text quiet = codes "Q\n"
entry_text ended = codes "E\n"

-- the lines of a log, in the order in which its entries happened
abbrev pub log_text : List Entry → List ℕ
log_text [] = []
log_text (entry ∷ log) = log_text log ++ entry_text entry

-- the first line
abbrev pub first_line : Role → List ℕ
first_line Role.Initiator = codes "beep-record 1 initiator\n"
first_line Role.Listener = codes "beep-record 1 listener\n"

-- the last line, where there is a status
abbrev pub status_text : Option ℕ → List ℕ
status_text None = []
status_text (Some status) = codes "S " ++ decimal status ++ 10 ∷ []

-- ---- a record

-- whose log it is, the log, and the status with which a run ended, where there is one
pub record Record : Type 0 where
  pub role : Role
  pub log : List Entry
  pub status : Option ℕ

-- its one text
abbrev pub record_text : Record → List ℕ
record_text r = first_line r.role ++ log_text r.log ++ status_text r.status

-- the end of the peer's octets came
abbrev pub has_ended : List Entry → Bool
has_ended [] = false
has_ended (read octets ∷ log) = has_ended log
has_ended (wrote octets ∷ log) = has_ended log
has_ended (quiet ∷ log) = has_ended log
has_ended (ended ∷ log) = true

-- these numbers are octets
abbrev pub are_octets : List ℕ → Bool
are_octets octets = list_all (λ octet. nat_lt octet numbers_8) octets

-- a line has room for these octets, and needs them
pub record IsPiece (octets : List ℕ) : Type 0 where
  pub are : IsTrue (are_octets octets)
  pub some : 0 < length octets
  pub within : length octets ≤ MAX_ENTRY

-- each piece has a line
abbrev pub ArePieces : List Entry → Type 0
ArePieces [] = Unit {0}
ArePieces (read octets ∷ log) = IsPiece octets × ArePieces log
ArePieces (wrote octets ∷ log) = IsPiece octets × ArePieces log
ArePieces (quiet ∷ log) = ArePieces log
ArePieces (ended ∷ log) = ArePieces log

-- nothing is read after the end: neither octets nor quiet nor another end
abbrev pub IsOrdered : List Entry → Type 0
IsOrdered [] = Unit {0}
IsOrdered (read octets ∷ log) = (has_ended log ≡ false) × IsOrdered log
IsOrdered (wrote octets ∷ log) = IsOrdered log
IsOrdered (quiet ∷ log) = (has_ended log ≡ false) × IsOrdered log
IsOrdered (ended ∷ log) = (has_ended log ≡ false) × IsOrdered log

-- the log is one that lines say
pub record IsLog (log : List Entry) : Type 0 where
  pub pieces : ArePieces log
  pub ordered : IsOrdered log

-- the status is one with which a run ends
abbrev pub IsStatus : Option ℕ → Type 0
IsStatus None = Unit {0}
IsStatus (Some status) = status ≤ MAX_STATUS

pub record IsRecord (r : Record) : Type 0 where
  pub log : IsLog r.log
  pub status : IsStatus r.status

-- ---- a text

-- the text is that of a record of this log
pub record Says (text : List ℕ) (role : Role) (log : List Entry) : Type 0 where
  pub status : Option ℕ
  pub is_record : IsRecord (record { role = role; log = log; status = status })
  pub text_is : text ≡ record_text (record { role = role; log = log; status = status })

-- some record begins with the text
pub record IsBegun (text : List ℕ) : Type 0 where
  pub whole : Record
  pub is_record : IsRecord whole
  pub more : List ℕ
  pub text_is : record_text whole ≡ text ++ more

-- some record begins with the octets before q, and none with octet q too; or it is the text's
-- length, and the text ends too soon
pub record Stops (text : List ℕ) (q : ℕ) : Type 0 where
  pub within : q ≤ length text
  pub begun : IsBegun (take q text)
  pub dead : q < length text → ¬ (IsBegun (take (suc q) text))
  pub short : q ≡ length text → (role : Role) (log : List Entry) → ¬ (Says text role log)
