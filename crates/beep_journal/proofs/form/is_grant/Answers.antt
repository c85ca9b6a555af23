-- A request and a reply that say values.
use Rattle.beep_journal.proofs.form.is_grant.Goals as goal

pub returns-in-Some-request : goal.returns-in-Some-request
returns-in-Some-request c position implied = rw (c.in-Some.is, c.in-Some-request.is) (c.is_met.ensures position)
