use Rattle.std.proofs.Common.{◌∙◌, ap, ◌++◌, ◌==◌, flat_map, sym, arith}
use Rattle.beep_text.specs.Listed.{items_listed}
use Rattle.beep_text.specs.Elements.{attr_text}
use Rattle.beep_text.specs.Canonical.{element_text, item_text, items_text, attr_as}
use Rattle.beep_text.proofs.CanonicalLemmas.{alone_joined, around_joined, text_alone, text_around, items_text-more}
use Rattle.beep_text.proofs.write.+write.Goals as goal

pub put_element-returns-then-is_empty : goal.put_element-returns-then-is_empty
put_element-returns-then-is_empty t c =
    let f = c.e.inside in
    let none = ap (λ n. n == 0) (sym f.items.ok.0) ∙ sym c.if-is_empty.ensures in
    alone_joined c.args.out.now.octets _ _ _ _ _ _ c.in_ok-extend.ensures.appended c.in_ok-put_name.ensures (c.in_ok-put_attrs.ensures ∙ ap (λ attrs. c.put_name.new.out.octets ++ flat_map (λ a. attr_text (attr_as a)) attrs) c.deref.ensures.value) c.in_ok-extend-2.ensures.appended
    ∙ ap (λ bs. c.args.out.now.octets ++ bs) (sym (text_alone f.name f.attrs.items f.items.items none) ∙ ap element_text c.e.view_is)

pub put_element-returns : goal.put_element-returns
put_element-returns t c =
    let f = c.e.inside in
    let some = ap (λ n. n == 0) (sym f.items.ok.0) ∙ sym c.if-is_empty.ensures in
    around_joined c.args.out.now.octets _ _ _ _ _ _ _ _ _ _ _ c.in_ok-extend.ensures.appended c.in_ok-put_name.ensures (c.in_ok-put_attrs.ensures ∙ ap (λ attrs. c.put_name.new.out.octets ++ flat_map (λ a. attr_text (attr_as a)) attrs) c.deref.ensures.value) c.in_ok-extend-3.ensures.appended
    (c.in_ok-put_items.ensures ∙ ap (λ items. c.extend-2.new.self.octets ++ items_text (items_listed items)) c.deref-2.ensures.value) c.in_ok-extend-4.ensures.appended c.in_ok-put_name-2.ensures c.in_ok-extend-5.ensures.appended
    ∙ ap (λ bs. c.args.out.now.octets ++ bs) (sym (text_around f.name f.attrs.items f.items.items some) ∙ ap element_text c.e.view_is)

pub put_items-loop-item-preserved : goal.put_items-loop-item-preserved
put_items-loop-item-preserved t c =
    items_text-more c.args.out.now.octets _ _ c.args.items.now c.loop-item.item-index c.item-item.result (omega arith) c.loop-item.invariant
    (c.in_ok-put_item.ensures ∙ ap (λ x. c.loop-item.out.octets ++ item_text x) c.item-item.is)
