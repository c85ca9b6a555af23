-- The latest entry is taken after the others.
use Rattle.std.proofs.Common.{List, subst}
use Rattle.beep_journal.specs.Log.{Entry, flat}
use Rattle.beep_shown.specs.Shown.{ShowsBy}
use Rattle.beep_shown.proofs.ShownLemmas.{log-first}
use Rattle.beep_shown.proofs.shown.Shown.+of.Goals as goal

pub returns-in_ok-take_entry-in-len1-up : goal.returns-in_ok-take_entry-in-len1-up
returns-in_ok-take_entry-in-len1-up n c =
    subst (λ (log : List Entry). ShowsBy c.take_entry.new.self (flat log)) (log-first c.args.log.now c.entry-item.result c.in-len1-up.len_at_least c.entry-item.is)
    (c.in_ok-take_entry-in-len1-up.ensures _ c.in_ok-session-in-len1-up.ensures)
