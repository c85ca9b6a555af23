-- The requests of the code, by what is kept of them.
use Rattle.std.proofs.Common.{sym, ap, ◌∙◌}
use Rattle.beep_decide.specs.Asks.{is_close_of}
use Rattle.beep_asked.specs.Kept.{Kept, Queue, is_leaving}
use Rattle.beep_asked.specs.Request.{kept_of}
use Rattle.beep_asked.proofs.KeptLemmas.{any-kept}
use Rattle.beep_asked.proofs.waiting.Waiting.is_leaving.Goals as goal

pub returns : goal.returns
returns c =
    c.has_close_of_zero.ensures
    ∙ sym (any-kept (λ (kept : Kept). is_close_of 0 kept.said) kept_of c.self.inside.list.items)
    ∙ ap (λ (q : Queue). is_leaving q.requests) c.self.view_is
