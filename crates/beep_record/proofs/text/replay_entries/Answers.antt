use Rattle.std.proofs.Common.{◌≡◌, ◌∙◌, ◌+◌, ◌∷◌, ◌++◌, List, ℕ, take, sym, ap, subst}
use Rattle.beep_journal.specs.Log.{Entry, flat}
use Rattle.beep_record.specs.declared.log.Entry.{Entry as Kept}
use Rattle.beep_record.specs.Logged.{entry_of, log_of}
use Rattle.beep_record.specs.Replaying.{Follows}
use Rattle.beep_record.proofs.LogLemmas.{log_of-more}
use Rattle.beep_record.proofs.text.replay_entries.Goals as goal

pub loop-entry-preserved : goal.loop-entry-preserved
loop-entry-preserved c =
    let items : List Kept = c.as_slice-entry-items.result.now in
    let i : ℕ = c.loop-entry.entry-index in
    let longer : log_of (take (i + 1) items) ≡ entry_of c.entry-item.result ∷ log_of (take i items) =
    log_of-more items i c.entry-item.result c.loop-entry-test.true ∙ ap (λ e. entry_of e ∷ log_of (take i items)) (sym c.entry-item.is) in
    let has = c.loop-entry.invariant.has in
    record {
      has = record { log = entry_of c.entry-item.result ∷ has.log; old = has.old; follows = c.in_ok-entry.ensures.ok has.log has.old has.follows };
      follows = λ log old follows. subst (λ (entries : List Entry). Follows c.entry.new.self (flat (entries ++ log)) old c.entry.new.out.octets) (sym longer)
          (c.in_ok-entry.ensures.ok (log_of (take i items) ++ log) old (c.loop-entry.invariant.follows log old follows));
    }
