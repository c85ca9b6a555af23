-- The two lists of rules are asked one after the other.
use Rattle.std.proofs.Common.{sym, ◌∙◌}
use Rattle.beep_history.proofs.RulesLemmas.{exchange-shape, exchange-limits}
use Rattle.beep_history.proofs.verdict.exchange_rule.Goals as goal

pub returns-in-Some : goal.returns-in-Some
returns-in-Some c = sym (exchange-shape _ _ _ _ (sym c.shape_rule.ensures ∙ c.in-Some.is))

pub returns-in-None : goal.returns-in-None
returns-in-None c = c.limit_rule.ensures ∙ sym (exchange-limits _ _ _ (sym c.shape_rule.ensures ∙ c.in-None.is))
