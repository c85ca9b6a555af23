use Rattle.std.proofs.Common.{ap, ◌∙◌}
use Rattle.beep_text.specs.Lawful.{value_named}
use Rattle.beep_chars.proofs.WordLemmas.{chars-name}
use Rattle.beep_text.proofs.element.Element.value_named.Goals as goal

pub returns : goal.returns
returns c = c.attr.ensures ∙ ap (λ name. value_named name c.args.self.now.attrs) (chars-name c.args.name.now c.requires.named)
