use Rattle.std.proofs.Common.{◌-◌, drop, flat_map, ap, arith, ◌∙◌}
use Rattle.std.proofs.lemmas.List.{take_rest}
use Rattle.beep_lawful.specs.Due.{may_go}
use Rattle.beep_talk.specs.Plain.{plain_messages}
use Rattle.beep_script.specs.Script.{message_marks}
use Rattle.beep_script.proofs.GoLemmas.{goes-within, goes-past}
use Rattle.beep_script.proofs.scripts.+may_go.Goals as goal

pub returns-then-sent-size : goal.returns-then-sent-size
returns-then-sent-size t c =
    goes-within c.args.messages.now c.message-item.result c.len-size.result c.args.sent c.args.open_octets c.in-len1-up.len_at_least c.message-item.is c.len-size.ensures c.if-sent-size.true

pub returns-else-sent-size-2 : goal.returns-else-sent-size-2
returns-else-sent-size-2 t c =
    c.may_go.ensures
    ∙ ap (λ ms. may_go c.args.open_octets (drop (c.args.sent - c.len-size.result - 1) (flat_map message_marks (plain_messages ms)))) (take_rest c.args.messages.now 1)
    ∙ goes-past c.args.messages.now c.message-item.result c.len-size.result c.args.sent c.args.open_octets c.in-len1-up.len_at_least c.message-item.is c.len-size.ensures
    (omega (arith, c.if-sent-size.false, c.if-sent-size-2.false))
