use Rattle.std.proofs.Common.{◌+◌, ◌∷◌, ◌≤◌, ◌^◌, length, sym, subst, arith, ap}
use Rattle.beep_journal.specs.Log.{flat}
use Rattle.beep_record.specs.declared.log.Entry.{Entry as Kept}
use Rattle.beep_record.specs.Logged.{entry_of}
use Rattle.beep_record.proofs.ReplayLemmas.{read_small, wrote_small}
use Rattle.beep_record.proofs.replayer.Replayer.entry.Goals as goal

pub returns-in-Read-clause-small : goal.returns-in-Read-clause-small
returns-in-Read-clause-small c log =
    subst (λ (e : Kept). length (flat (entry_of e ∷ log)) ≤ length (flat log) + 2 ^ 64) (sym c.in-Read.is)
    (read_small c.in-Read.octets.octets log (omega (arith, c.feed.ensures.small, ap length c.as_slice.ensures)))

pub returns-in-Wrote-clause-small : goal.returns-in-Wrote-clause-small
returns-in-Wrote-clause-small c log =
    subst (λ (e : Kept). length (flat (entry_of e ∷ log)) ≤ length (flat log) + 2 ^ 64) (sym c.in-Wrote.is)
    (wrote_small c.in-Wrote.octets.octets log (omega (arith, c.feed-in-Wrote.ensures.small, ap length c.as_slice-in-Wrote.ensures)))
