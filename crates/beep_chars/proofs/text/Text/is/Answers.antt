use Rattle.std.proofs.Common.{◌∙◌, ap, chars}
use Rattle.std.specs.Prelude.{bytes_eq}
use Rattle.beep_chars.proofs.TextLemmas.{bytes_eq-chars}
use Rattle.beep_chars.proofs.text.Text.is.Goals as goal

pub returns : goal.returns
returns c =
    c.eq.ensures ∙ bytes_eq-chars _ _ c.as_str.utf8 c.utf8.other
    ∙ ap (λ cs. bytes_eq cs (chars c.args.other.now)) (ap chars c.as_str.ensures.value ∙ c.self.view_is)
