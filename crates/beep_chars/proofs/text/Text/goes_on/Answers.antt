use Rattle.std.proofs.Common.{◌∙◌, ap, chars, rules, tests}
use Rattle.std.specs.List.{list_all}
use Rattle.std.proofs.lemmas.Iterator.{YieldsList-from_chars}
use Rattle.std.proofs.lemmas.Iterator.Search.{all_from_yields_List}
use Rattle.beep_chars.specs.Characters.{is_name_char}
use Rattle.beep_chars.proofs.text.Text.goes_on.Goals as goal

pub returns : goal.returns
returns c =
    all_from_yields_List is_name_char _ _ c.all.result c.all.ensures.ran (YieldsList-from_chars _ c.as_str.utf8 c.chars.ensures.rest) (λ x b q k. search (rules, tests))
    ∙ ap (list_all is_name_char) (ap chars c.as_str.ensures.value ∙ c.self.view_is)
