use Rattle.std.proofs.Common.{sym, ap, ◌∙◌}
use Rattle.beep_outbox.proofs.EntriesLemmas.{messages-octets}
use Rattle.beep_outbox.proofs.outbox.Outbox.queued.Goals as goal
use Rattle.beep_outbox.specs.Queue.{octets_of}
use Rattle.beep_outbox.specs.Unsent.{Unsent}

pub returns : goal.returns
returns c =
    c.len.ensures.len
    ∙ sym (messages-octets c.self.inside.entries.items c.self.inside.octets.items
    c.self.invariant.0)
    ∙ ap (λ (unsent : Unsent). octets_of unsent.messages) c.self.view_is
