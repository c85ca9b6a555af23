use Rattle.std.proofs.Common.{◌≡◌, take, true}
use Rattle.beep_text.specs.Listed.{items_listed}
use Rattle.beep_mgmt.specs.Said.{is_blank}
use Rattle.beep_mgmt.proofs.form.are_blank.Given as goal

abbrev pub invariant-loop-item : goal.invariant-loop-item
invariant-loop-item l = is_blank (items_listed (take l.item-index l.items)) ≡ true
