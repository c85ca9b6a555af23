-- The two lists of rules are asked one after the other.
use Rattle.std.proofs.Common.{sym, ◌∙◌}
use Rattle.beep_history.proofs.RulesLemmas.{first_of-some, first_of-none}
use Rattle.beep_exchange.specs.Kept.{judged, shape_tests, limit_tests}
use Rattle.beep_exchange.proofs.PlainLemmas.{judged-plain}
use Rattle.beep_exchange.proofs.way.Way.judge.Goals as goal

pub returns-in-Some : goal.returns-in-Some
unfolding judged
returns-in-Some c =
    sym (first_of-some (shape_tests c.args.self.now c.args.theirs.now c.args.head.now) (limit_tests c.args.self.now c.args.theirs.now c.args.head.now) _
    (sym c.judge_shape.ensures ∙ c.in-Some.is))

pub returns-in-None : goal.returns-in-None
unfolding judged
returns-in-None c =
    c.judge_limits.ensures
    ∙ sym (first_of-none (shape_tests c.args.self.now c.args.theirs.now c.args.head.now) (limit_tests c.args.self.now c.args.theirs.now c.args.head.now)
    (sym c.judge_shape.ensures ∙ c.in-None.is))

pub returns-then-takes_answers : goal.returns-then-takes_answers
returns-then-takes_answers c =
    sym (judged-plain c.args.self.now c.args.theirs.now c.args.head.now (sym c.is_plain.ensures ∙ c.if-is_plain.true) (sym c.takes_answers.ensures ∙ c.if-takes_answers.true))
