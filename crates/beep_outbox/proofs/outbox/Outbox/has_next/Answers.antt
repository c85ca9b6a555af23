use Rattle.std.proofs.Common.{◌≡◌, sym, ap, ◌∙◌, arith, length, deque_len}
use Rattle.beep_outbox.proofs.EntriesLemmas.{messages-count, some-left}
use Rattle.beep_outbox.proofs.outbox.Outbox.has_next.Goals as goal
use Rattle.beep_outbox.specs.Unsent.{Unsent}

pub returns : goal.returns
returns c =
    let count = messages-count c.self.inside.entries.items c.self.inside.octets.items in
    let len : deque_len c.self.inside.entries ≡ length c.self.inside.entries.items = omega arith in
    some-left c.is_empty.result _ _ c.is_empty.ensures
    (len ∙ sym count ∙ ap (λ (unsent : Unsent). length unsent.messages) c.self.view_is)
