-- What is written of a value says it.
use Rattle.std.proofs.Common.{◌++◌, ap, ◌∙◌}
use Rattle.beep_management.specs.beep_mgmt.specs.Form.{form_of}
use Rattle.beep_management.specs.beep_mgmt.specs.Message.{message_text}
use Rattle.beep_answering.proofs.MessageLemmas.{is-message}
use Rattle.beep_answering.proofs.answer.message_of.Goals as goal

pub returns-clause-says : goal.returns-clause-says
returns-clause-says c back few =
    let text = message_text (form_of c.args.value.now) in
    is-message c.the_value_said_is_that_of_the_message.ensures c.write_mgmt.new.out.octets (form_of c.args.value.now)
    (c.in_ok-write_mgmt.ensures.appended ∙ ap (λ o. o ++ text) c.new-octets.ensures) (c.in_ok-write_mgmt.ensures.back back) few
