-- The judge of what is kept, at a history.
use Rattle.std.proofs.Common.{◌≡◌, ◌∙◌}
use Rattle.beep_exchange.specs.Kept.{judged}
use Rattle.beep_exchange.proofs.ExchangeLemmas.{judged-received}
use Rattle.beep_exchange.proofs.exchange.Exchange.judge_in.Goals as goal

pub returns-clause-stands : goal.returns-clause-stands
returns-clause-stands c =
    let value : c.judge.result ≡ judged c.args.self.now.received c.args.self.now.sent c.args.head.now = rw (← c.self.view_is) c.judge.ensures in
    λ past s. value ∙ judged-received c.args.self.now past s c.args.head.now
