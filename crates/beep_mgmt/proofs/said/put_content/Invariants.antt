use Rattle.std.proofs.Common.{◌≡◌, ◌++◌, take}
use Rattle.beep_text.specs.Listed.{items_listed}
use Rattle.beep_mgmt.specs.Said.{content_text}
use Rattle.beep_mgmt.proofs.said.put_content.Given as goal

abbrev pub invariant-loop-item : goal.invariant-loop-item
invariant-loop-item l = l.out.octets ≡ l.fn.out.octets ++ content_text (items_listed (take l.item-index l.items))
