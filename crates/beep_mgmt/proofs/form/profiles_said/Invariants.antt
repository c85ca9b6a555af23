use Rattle.std.proofs.Common.{◌≡◌, take, Some, map}
use Rattle.beep_text.specs.Listed.{items_listed}
use Rattle.beep_mgmt.specs.Form.{plain_profile}
use Rattle.beep_mgmt.specs.Said.{profiles_said}
use Rattle.beep_mgmt.proofs.form.profiles_said.Given as goal

abbrev pub invariant-loop-item : goal.invariant-loop-item
invariant-loop-item l = Some (map plain_profile l.profiles) ≡ profiles_said (items_listed (take l.item-index l.items))
