-- A close is granted by `ok` alone.
use Rattle.beep_journal.proofs.form.is_met.Goals as goal

pub returns-in-Close : goal.returns-in-Close
returns-in-Close c position = rw c.in-Close.is (c.is_okay.ensures position c.in-Close.number c.in-Close.code c.in-Close.note)
