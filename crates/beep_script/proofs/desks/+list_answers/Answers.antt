use Rattle.std.proofs.Common.{◌++◌, map, take, ◌-◌, ap, ◌∙◌}
use Rattle.std.proofs.lemmas.Result.{on_ok_weaker, IfOk-weaker}
use Rattle.beep_talk.specs.AtZero.{answer_message}
use Rattle.beep_talk.specs.Plain.{plain_zeros, plain_answers}
use Rattle.beep_script.proofs.DeskLemmas.{put-first, list-rest, left-rest}
use Rattle.beep_script.proofs.desks.+list_answers.Goals as goal

pub returns-clause-listed : goal.returns-clause-listed
returns-clause-listed t c =
    on_ok_weaker c.list_answers.result (λ listed. listed
    ∙ ap (λ ms. ms ++ map answer_message (take (c.args.count - 1) (plain_answers c.take_first-first.new.answers.items)))
    (put-first c.args.listed.now.items c.put_last.new.list.items c.answer_message.result c.take_first-first.result c.in_ok-put_last.ensures.ok c.answer_message.ensures)
    ∙ list-rest c.args.count (plain_zeros c.args.listed.now.items) c.take_first-first.result c.take_first-first.new.answers.items c.args.answers.items c.if-count-eq0.false c.take_first-first.ensures)
    c.list_answers.ensures.listed

pub returns-clause-rest : goal.returns-clause-rest
returns-clause-rest t c =
    IfOk-weaker c.list_answers.result _ _ (λ rest left. left
    ∙ left-rest c.args.count c.take_first-first.result c.take_first-first.new.answers.items c.args.answers.items c.if-count-eq0.false c.take_first-first.ensures)
    c.list_answers.ensures.rest
