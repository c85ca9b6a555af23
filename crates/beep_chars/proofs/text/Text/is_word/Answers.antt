use Rattle.std.proofs.Common.{ap, ◌∙◌}
use Rattle.std.specs.Prelude.{bytes_eq}
use Rattle.beep_chars.proofs.WordLemmas.{chars-name}
use Rattle.beep_chars.proofs.text.Text.is_word.Goals as goal

pub returns : goal.returns
returns c = c.is.ensures ∙ ap (bytes_eq c.args.self.now) (chars-name c.args.word.now c.requires.named)
