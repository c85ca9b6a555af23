use Rattle.std.proofs.Common.{◌≡◌, ◌++◌, take}
use Rattle.beep_text.specs.Listed.{items_listed}
use Rattle.beep_text.specs.Canonical.{items_text}
use Rattle.beep_text.proofs.write.+write.Given as goal

abbrev pub invariant-put_items-loop-item : goal.invariant-put_items-loop-item
invariant-put_items-loop-item l = l.out.octets ≡ l.fn.out.octets ++ items_text (items_listed (take l.item-index l.items))
