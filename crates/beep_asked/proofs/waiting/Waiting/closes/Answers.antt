-- The requests of the code, by what is kept of them.
use Rattle.std.proofs.Common.{sym, ap, ◌∙◌}
use Rattle.beep_asked.specs.Kept.{Queue, closes_one, closes}
use Rattle.beep_asked.specs.Request.{kept_of}
use Rattle.beep_asked.proofs.KeptLemmas.{any-kept}
use Rattle.beep_asked.proofs.waiting.Waiting.closes.Goals as goal

pub returns : goal.returns
returns c =
    c.has_close.ensures
    ∙ sym (any-kept (closes_one c.args.number) kept_of c.self.inside.list.items)
    ∙ ap (λ (q : Queue). closes c.args.number q.requests) c.self.view_is
