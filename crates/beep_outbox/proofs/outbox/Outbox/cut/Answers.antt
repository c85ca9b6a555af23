use Rattle.std.proofs.Common.{sym, ap}
use Rattle.beep_outbox.proofs.EntriesLemmas.{is-cut}
use Rattle.beep_outbox.proofs.outbox.Outbox.cut.Goals as goal
use Rattle.beep_outbox.specs.Unsent.{Unsent}

pub returns-clause-value : goal.returns-clause-value
returns-clause-value c =
    is-cut c.args.max _ _ _ c.self.inside.entries.items c.cut_entry-count.new.entries.items
    c.self.inside.octets.items c.move_front.new.ring.items c.args.self.now.messages
    c.cut_entry-count.ensures.cuts c.self.invariant.0
    (sym (ap (λ (unsent : Unsent). unsent.messages) c.self.view_is)) c.move_front.ensures.left
