-- What the entries of a log in code stand for: the log of a link, the latest first (RFC 3081,
-- section 2).
-- The code keeps them in the order in which they happened, each in octets of its own.
use Rattle.std.specs.Prelude.{ℕ, ◌==◌, if◌then◌else◌, List, [], ◌∷◌, length, fold, Option, None, Some}
use Rattle.beep_journal.specs.Log.{Entry, read, wrote, quiet, ended}
use Rattle.beep_record.specs.declared.log.Entry.{Entry as Kept}

-- the entry that a value in code stands for
abbrev pub entry_of : Kept → Entry
entry_of (Kept.Read octets) = read octets.octets
entry_of (Kept.Wrote octets) = wrote octets.octets
entry_of Kept.Quiet = quiet
entry_of Kept.Ended = ended

-- the log that entries stand for, which are in the order in which they happened
abbrev pub log_of : List Kept → List Entry
log_of entries = fold (λ log entry. entry_of entry ∷ log) [] entries

-- the entry that so many came before
abbrev pub entry_at : ℕ → List Entry → Option Entry
entry_at place [] = None
entry_at place (entry ∷ log) = if length log == place then Some entry else entry_at place log
