use Rattle.std.proofs.Common.{ap, ◌∙◌}
use Rattle.beep_exchange.proofs.GivenLemmas.{told-asked}
use Rattle.beep_exchange.proofs.exchange.Exchange.asked.Goals as goal

pub returns-clause-calls : goal.returns-clause-calls
returns-clause-calls c calls counts = ap (λ life. life.given.asked) c.self.view_is ∙ told-asked c.args.self.now.given calls counts
