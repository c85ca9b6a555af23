use Rattle.std.proofs.Common.{chars, ap, ◌∙◌, sym, length}
use Rattle.std.proofs.lemmas.Str.{chars-nil}
use Rattle.beep_chars.proofs.text.Text.new.Goals as goal

pub returns : goal.returns
returns c = ap chars c.new.ensures.bytes ∙ chars-nil

pub invariant_of-result : goal.invariant_of-result
invariant_of-result c = ap length (sym (ap chars c.new.ensures.bytes ∙ chars-nil))
