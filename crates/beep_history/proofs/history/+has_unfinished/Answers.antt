-- The latest frame of the reply is an ANS: of this number, or of another.
use Rattle.std.proofs.Common.{sym, ◌∙◌}
use Rattle.beep_history.proofs.AnswersLemmas.{unfinished-same, unfinished-other}
use Rattle.beep_history.proofs.history.+has_unfinished.Goals as goal

pub returns-then-head-number : goal.returns-then-head-number
returns-then-head-number t c =
    sym (unfinished-same c.args.number _ c.in-Some.head _ c.in-Some.ensures.some (sym c.is_ans.ensures ∙ c.if-not-is_ans.false) c.if-head-number.true)

pub returns-else-head-number : goal.returns-else-head-number
returns-else-head-number t c =
    c.has_unfinished-had.ensures
    ∙ sym (unfinished-other c.args.number _ c.in-Some.head _ c.in-Some.ensures.some (sym c.is_ans.ensures ∙ c.if-not-is_ans.false) c.if-head-number.false)
