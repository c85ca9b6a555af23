use Rattle.std.proofs.Common.{refl}
use Rattle.std.proofs.lemmas.Result.{on_ok_weaker}
use Rattle.beep_mgmt.specs.Form.{form_of}
use Rattle.beep_show.specs.Texts.{element, unreadable}
use Rattle.beep_show.proofs.zero.append_said.Goals as goal

pub returns-in-Ok : goal.returns-in-Ok
returns-in-Ok c =
    on_ok_weaker c.write_mgmt_element.result (λ e small. record { text = _; is_text = element (form_of c.in-Ok.mgmt) small c.in-Ok.ensures.value refl; appended = e }) c.write_mgmt_element.ensures.appended

pub returns-in-Err : goal.returns-in-Err
returns-in-Err c =
    on_ok_weaker c.append_unreadable.result (λ w small. record { text = _; is_text = unreadable small (λ form says. w.0 (c.a_message_that_says_a_value_is_read.ensures c.args.message.now form c.in-Err.error says small c.in-Err.ensures.refused)) refl; appended = w.1 }) c.append_unreadable.ensures
