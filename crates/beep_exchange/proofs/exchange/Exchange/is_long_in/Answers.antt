-- The test of what is kept, at a history.
use Rattle.std.proofs.Common.{◌≡◌, ◌∙◌}
use Rattle.beep_exchange.specs.Kept.{breaks_long}
use Rattle.beep_exchange.proofs.TagLemmas.{long-received}
use Rattle.beep_exchange.proofs.exchange.Exchange.is_long_in.Goals as goal

pub returns-clause-stands : goal.returns-clause-stands
returns-clause-stands c =
    let value : c.breaks_long.result ≡ breaks_long c.args.self.now.received c.args.self.now.sent c.args.head.now = rw (← c.self.view_is) c.breaks_long.ensures in
    λ past s shape. value ∙ long-received c.args.self.now past s c.args.head.now shape
