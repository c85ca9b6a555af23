-- The requests of the code, by what is kept of them.
use Rattle.std.proofs.Common.{not, sym, ap, ◌∙◌}
use Rattle.beep_decide.specs.Asks.{is_close_of}
use Rattle.beep_asked.specs.Kept.{Kept, Queue, asks_otherwise}
use Rattle.beep_asked.specs.Request.{kept_of}
use Rattle.beep_asked.proofs.KeptLemmas.{any-kept}
use Rattle.beep_asked.proofs.waiting.Waiting.asks_otherwise.Goals as goal

pub returns : goal.returns
returns c =
    c.has_other.ensures
    ∙ sym (any-kept (λ (kept : Kept). not (is_close_of 0 kept.said)) kept_of c.self.inside.list.items)
    ∙ ap (λ (q : Queue). asks_otherwise q.requests) c.self.view_is
