use Rattle.std.proofs.Common.{◌∙◌, ap, ◌++◌, arith}
use Rattle.beep_mgmt.specs.Parts.{part_text}
use Rattle.beep_mgmt.proofs.PartLemmas.{content_text-more}
use Rattle.beep_mgmt.proofs.said.put_content.Goals as goal

pub loop-item-preserved : goal.loop-item-preserved
loop-item-preserved c =
    content_text-more c.args.out.now.octets _ _ c.args.items.now c.loop-item.item-index c.item-item.result (omega arith) c.loop-item.invariant
    (c.in_ok-put_part.ensures ∙ ap (λ x. c.loop-item.out.octets ++ part_text x) c.item-item.is)
