use Rattle.std.proofs.Common.{◌≡◌, ℕ, ◌==◌, sym, ap, ◌∙◌, arith, length, deque_len}
use Rattle.beep_inbox.proofs.inbox.Inbox.is_empty.Goals as goal
use Rattle.beep_inbox.proofs.PartsLemmas.{runs-count}
use Rattle.beep_inbox.specs.Untaken.{Untaken}

pub returns-clause-value : goal.returns-clause-value
returns-clause-value c =
    let count = runs-count c.self.inside.parts.items c.self.inside.octets.items in
    let len : deque_len c.self.inside.parts ≡ length c.self.inside.parts.items = omega arith in
    c.is_empty.ensures
    ∙ ap (λ (n : ℕ). n == 0)
    (len ∙ sym count ∙ ap (λ (untaken : Untaken). length untaken.runs) c.self.view_is)
