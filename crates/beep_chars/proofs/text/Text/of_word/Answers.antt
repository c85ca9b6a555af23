use Rattle.std.proofs.Common.{◌≡◌, ℕ, List, subst, IfOk}
use Rattle.beep_chars.proofs.WordLemmas.{chars-name}
use Rattle.beep_chars.proofs.text.Text.of_word.Goals as goal

pub returns : goal.returns
returns c = subst (λ (x : List ℕ). IfOk c.of.result (λ text. text ≡ x)) (chars-name c.args.word.now c.requires.named) c.of.ensures
