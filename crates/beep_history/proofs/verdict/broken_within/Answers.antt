-- The three lists of rules are asked one after the other.
use Rattle.std.proofs.Common.{sym, ◌∙◌}
use Rattle.beep_history.proofs.RulesLemmas.{within-shape, within-octets, within-limits}
use Rattle.beep_history.proofs.verdict.broken_within.Goals as goal

pub returns-in-Some : goal.returns-in-Some
returns-in-Some c = sym (within-shape c.args.edge _ _ _ _ (sym c.shape_rule.ensures ∙ c.in-Some.is))

pub returns-in-Some-octet_rule : goal.returns-in-Some-octet_rule
returns-in-Some-octet_rule c =
    sym (within-octets c.args.edge _ _ _ _ (sym c.shape_rule.ensures ∙ c.in-None.is) (sym c.octet_rule.ensures ∙ c.in-Some-octet_rule.is))

pub returns-in-None-octet_rule : goal.returns-in-None-octet_rule
returns-in-None-octet_rule c =
    c.limit_rule.ensures
    ∙ sym (within-limits c.args.edge _ _ _ (sym c.shape_rule.ensures ∙ c.in-None.is) (sym c.octet_rule.ensures ∙ c.in-None-octet_rule.is))
