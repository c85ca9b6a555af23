-- The octets of an entry are taken one by one.
use Rattle.std.proofs.Common.{ℕ, List, ◌∷◌, OnOk, sym, subst}
use Rattle.beep_journal.specs.Log.{flat, got_all, put_all}
use Rattle.beep_record.specs.declared.log.Entry.{Entry as Kept}
use Rattle.beep_record.specs.Logged.{entry_of}
use Rattle.beep_shown.specs.Shown.{ShowsBy}
use Rattle.beep_shown.proofs.shown.Shown.take_entry.Goals as goal

pub returns-in-Read : goal.returns-in-Read
returns-in-Read c log shows =
    subst (λ (e : Kept). OnOk c.take_octets.result (ShowsBy c.take_octets.new.self (flat (entry_of e ∷ log)))) (sym c.in-Read.is)
    (subst (λ (octets : List ℕ). OnOk c.take_octets.result (ShowsBy c.take_octets.new.self (got_all octets (flat log)))) c.as_slice.ensures
    (c.take_octets.ensures (flat log) shows))

pub returns-in-Wrote : goal.returns-in-Wrote
returns-in-Wrote c log shows =
    subst (λ (e : Kept). OnOk c.take_octets-in-Wrote.result (ShowsBy c.take_octets-in-Wrote.new.self (flat (entry_of e ∷ log)))) (sym c.in-Wrote.is)
    (subst (λ (octets : List ℕ). OnOk c.take_octets-in-Wrote.result (ShowsBy c.take_octets-in-Wrote.new.self (put_all octets (flat log)))) c.as_slice-in-Wrote.ensures
    (c.take_octets-in-Wrote.ensures (flat log) shows))
