use Rattle.std.proofs.Common.{◌≡◌, ◌++◌, take, flat_map}
use Rattle.beep_text.specs.Elements.{attr_text}
use Rattle.beep_text.specs.Canonical.{attr_as}
use Rattle.beep_text.proofs.write.put_attrs.Given as goal

abbrev pub invariant-loop-attr : goal.invariant-loop-attr
invariant-loop-attr l = l.out.octets ≡ l.fn.out.octets ++ flat_map (λ a. attr_text (attr_as a)) (take l.attr-index l.attrs)
