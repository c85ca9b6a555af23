use Rattle.std.proofs.Common.{◌∙◌, ap, ◌++◌, sym, true}
use Rattle.std.proofs.lemmas.List.Folds.{flat_map-map}
use Rattle.beep_text.specs.Elements.{written_text}
use Rattle.beep_text.specs.Canonical.{written_as}
use Rattle.beep_text.proofs.CanonicalLemmas.{attr_joined}
use Rattle.beep_text.proofs.write.put_attr.Goals as goal

pub returns : goal.returns
returns c =
    attr_joined c.args.out.now.octets _ _ _ _ _ _ _ c.in_ok-extend.ensures.appended c.in_ok-put_name.ensures c.in_ok-extend-2.ensures.appended
    (c.in_ok-put_text.ensures ∙ ap (λ bs. c.extend-2.new.self.octets ++ bs) (sym (flat_map-map written_text (written_as true) c.args.attr.now.value)))
    c.in_ok-extend-3.ensures.appended
