use Rattle.std.proofs.Common.{rules, tests}
use Rattle.std.proofs.lemmas.Iterator.{YieldsList-from_chars}
use Rattle.std.proofs.lemmas.Iterator.Search.{all_from_yields_List}
use Rattle.beep_chars.specs.Characters.{is_allowed}
use Rattle.beep_chars.proofs.characters.are_allowed.Goals as goal

pub returns : goal.returns
returns c =
    all_from_yields_List is_allowed _ _ c.all.result c.all.ensures.ran (YieldsList-from_chars _ c.utf8.characters c.chars.ensures.rest) (λ x b q k. search (rules, tests))
