use Rattle.std.proofs.Common.{◌≡◌, drop, chars}
use Rattle.beep_text.specs.Lawful.{value_named}
use Rattle.beep_text.proofs.element.Element.attr.Given as goal

abbrev pub invariant-loop-attr : goal.invariant-loop-attr
invariant-loop-attr l = value_named (chars l.name) l.self.attrs ≡ value_named (chars l.name) (drop l.attr-index l.self.attrs)
