-- The rules on octets stand before those on limits.
use Rattle.std.proofs.Common.{sym, ◌∙◌}
use Rattle.beep_judge.proofs.LifeLemmas.{keeps-limit, keeps-none, broken-limit, broken-shape, broken-none}
use Rattle.beep_judge.proofs.life.Life.judge.Goals as goal

pub returns-then-is_limit-clause-stands : goal.returns-then-is_limit-clause-stands
returns-then-is_limit-clause-stands c past s =
    let e = sym (c.exchange_rule-rule.ensures.stands past s) ∙ c.in-Some.is in
    let limit = sym c.is_limit.ensures ∙ c.if-is_limit.true in
    c.or_else.ensures
    ∙ broken-limit c.args.side past c.args.head.now c.in-Some.rule c.octet_rule.result e limit
    (c.octet_rule.ensures past s (keeps-limit c.args.side past c.args.head.now c.in-Some.rule e limit))

pub returns-else-is_limit-clause-stands : goal.returns-else-is_limit-clause-stands
returns-else-is_limit-clause-stands c past s =
    broken-shape c.args.side past c.args.head.now c.in-Some.rule (sym (c.exchange_rule-rule.ensures.stands past s) ∙ c.in-Some.is) (sym c.is_limit.ensures ∙ c.if-is_limit.false)

pub returns-in-None-clause-stands : goal.returns-in-None-clause-stands
returns-in-None-clause-stands c past s =
    let e = sym (c.exchange_rule-rule.ensures.stands past s) ∙ c.in-None.is in
    broken-none c.args.side past c.args.head.now c.octet_rule-in-None.result e (c.octet_rule-in-None.ensures past s (keeps-none c.args.side past c.args.head.now e))
