use Rattle.std.proofs.Common.{◌≡◌, drop}
use Rattle.beep_text.specs.Lawful.{has_name}
use Rattle.beep_text.proofs.level.has_name.Given as goal

abbrev pub invariant-loop-attr : goal.invariant-loop-attr
invariant-loop-attr l = has_name l.name l.attrs ≡ has_name l.name (drop l.attr-index l.attrs)
