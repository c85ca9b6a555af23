-- The test of what is kept, at a history.
use Rattle.std.proofs.Common.{◌≡◌, ◌∙◌}
use Rattle.beep_exchange.specs.Kept.{breaks_long}
use Rattle.beep_exchange.proofs.TagLemmas.{long-sent}
use Rattle.beep_exchange.proofs.exchange.Exchange.is_long_out.Goals as goal

pub returns-clause-stands : goal.returns-clause-stands
returns-clause-stands c =
    let value : c.breaks_long.result ≡ breaks_long c.args.self.now.sent c.args.self.now.received c.args.head.now = rw (← c.self.view_is) c.breaks_long.ensures in
    λ past s shape. value ∙ long-sent c.args.self.now past s c.args.head.now shape
