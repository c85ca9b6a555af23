use Rattle.std.proofs.Common.{arith, sym, ◌∙◌, ap}
use Rattle.beep_mgmt.specs.Parts.{is_blank_part}
use Rattle.beep_mgmt.proofs.PartLemmas.{not_blank}
use Rattle.beep_mgmt.proofs.form.are_blank.Goals as goal

pub returns-then-not-is_blank_part : goal.returns-then-not-is_blank_part
returns-then-not-is_blank_part c =
    sym (not_blank c.args.items.now c.loop-item.item-index c.item-item.result (omega arith) (sym (ap is_blank_part c.item-item.is) ∙ sym c.if-not-is_blank_part.ensures))
