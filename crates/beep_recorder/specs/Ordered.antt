-- For the proofs alone: that nothing is read after the end, as a test.
use Rattle.std.specs.Prelude.{Bool, true, not, ◌&&◌, List, [], ◌∷◌}
use Rattle.beep_journal.specs.Log.{Entry, read, wrote, quiet, ended}
use Rattle.beep_record.specs.Record.{has_ended}

abbrev pub is_ordered : List Entry → Bool
is_ordered [] = true
is_ordered (read octets ∷ log) = not (has_ended log) && is_ordered log
is_ordered (wrote octets ∷ log) = is_ordered log
is_ordered (quiet ∷ log) = not (has_ended log) && is_ordered log
is_ordered (ended ∷ log) = not (has_ended log) && is_ordered log
