-- The latest frame of the reply is an ANS that is complete: its answer was unfinished, or had no frame.
use Rattle.std.proofs.Common.{◌∙◌, sym, arith}
use Rattle.beep_history.proofs.AnswersLemmas.{length-unfinished-ended, length-unfinished-alone}
use Rattle.beep_history.proofs.history.+unfinished_count.Goals as goal

pub returns-in-false-true-clause-value : goal.returns-in-false-true-clause-value
returns-in-false-true-clause-value t c =
    let e = length-unfinished-ended _ c.in-Some.head _ c.in-Some.ensures.some (sym c.is_ans.ensures ∙ c.if-not-is_ans.false) c.in-false-true.is-0 c.in-false-true.ensures in
    omega (arith, e, c.unfinished_count-count.ensures.value)

pub returns-in-true-true-2-clause-value : goal.returns-in-true-true-2-clause-value
returns-in-true-true-2-clause-value t c =
    let e = length-unfinished-alone _ c.in-Some.head _ c.in-Some.ensures.some (sym c.is_ans.ensures ∙ c.if-not-is_ans.false) c.in-true-true.is-0 c.in-true-true.ensures in
    c.unfinished_count-count.ensures.value ∙ sym e
