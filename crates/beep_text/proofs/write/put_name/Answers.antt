use Rattle.std.proofs.Common.{◌∙◌, ap, ◌++◌}
use Rattle.beep_text.proofs.CanonicalLemmas.{name-octets}
use Rattle.beep_text.proofs.write.put_name.Goals as goal

pub returns : goal.returns
returns c =
    c.in_ok-extend.ensures.appended ∙ ap (λ bs. c.args.out.now.octets ++ bs)
    (c.as_bytes.ensures.value ∙ name-octets _ _ c.as_str.utf8 c.as_str.ensures c.requires.named)
