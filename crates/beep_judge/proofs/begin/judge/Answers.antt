-- Each exit is a rule in its order.
use Rattle.std.proofs.Common.{sym, ◌∙◌, true, false}
use Rattle.beep_judge.proofs.HeadLemmas.{too-large, too-soon, not-there, in-life, after-life}
use Rattle.beep_judge.proofs.begin.judge.Goals as goal

pub returns-then-is_too_large-clause-value : goal.returns-then-is_too_large-clause-value
returns-then-is_too_large-clause-value c theirs journal s =
    too-large c.args.side journal c.args.channels.now c.args.mine.now theirs s c.args.head.now c.is_too_large.ensures c.if-is_too_large.true

pub returns-then-is_too_soon-clause-value : goal.returns-then-is_too_soon-clause-value
returns-then-is_too_soon-clause-value c theirs journal s =
    too-soon c.args.side journal c.args.channels.now c.args.mine.now theirs s c.args.head.now c.is_too_large.ensures c.if-is_too_large.false
    c.is_too_soon.ensures c.if-is_too_soon.true

pub returns-in_default-clause-value : goal.returns-in_default-clause-value
returns-in_default-clause-value c theirs journal s =
    not-there c.args.side journal c.args.channels.now c.args.mine.now theirs s c.args.head.now c.is_too_large.ensures c.if-is_too_large.false
    c.is_too_soon.ensures c.if-is_too_soon.false (sym c.in_default.ensures)

pub returns-in-Some-judge-clause-value : goal.returns-in-Some-judge-clause-value
returns-in-Some-judge-clause-value c theirs journal s =
    in-life c.args.side journal c.args.channels.now c.args.mine.now theirs s c.args.head.now c.is_too_large.ensures c.if-is_too_large.false
    c.is_too_soon.ensures c.if-is_too_soon.false c.in-Some.life.now (sym c.in-Some.ensures) c.judge.result c.in-Some-judge.rule c.judge.ensures.stands c.in-Some-judge.is

pub returns-then-is_zero_reply-clause-value : goal.returns-then-is_zero_reply-clause-value
returns-then-is_zero_reply-clause-value c theirs journal s =
    after-life c.args.side journal c.args.channels.now c.args.mine.now theirs s c.args.head.now c.is_too_large.ensures c.if-is_too_large.false
    c.is_too_soon.ensures c.if-is_too_soon.false c.in-Some.life.now (sym c.in-Some.ensures) c.judge.result true c.judge.ensures.stands c.in_default-judge.is
    (sym c.is_zero_reply.ensures ∙ c.if-is_zero_reply.true)

pub returns-clause-value : goal.returns-clause-value
returns-clause-value c theirs journal s =
    after-life c.args.side journal c.args.channels.now c.args.mine.now theirs s c.args.head.now c.is_too_large.ensures c.if-is_too_large.false
    c.is_too_soon.ensures c.if-is_too_soon.false c.in-Some.life.now (sym c.in-Some.ensures) c.judge.result false c.judge.ensures.stands c.in_default-judge.is
    (sym c.is_zero_reply.ensures ∙ c.if-is_zero_reply.false)
