use Rattle.std.proofs.Common.{◌≡◌, length, true, arith, refl, eqb-true, sym, ◌∙◌}
use Rattle.beep_record.specs.Record.{are_octets}
use Rattle.beep_record.proofs.OctetLemmas.{some_of, are_octets_of}
use Rattle.beep_record.proofs.WrittenLemmas.{cut_nothing, cut_more, cut_whole}
use Rattle.beep_record.proofs.write.put_piece.Goals as goal

pub loop-rest-init : goal.loop-rest-init
loop-rest-init c = cut_nothing c.args.side c.args.octets.now c.args.out.now.octets

pub loop-rest-preserved : goal.loop-rest-preserved
loop-rest-preserved c =
    let are : are_octets c.args.octets.now ≡ true = are_octets_of c.args.octets.now (λ i. omega (arith, c.type_inv.octets i)) in
    cut_more c.args.side c.args.octets.now c.loop-rest.rest.now c.args.out.now.octets c.loop-rest.out.octets c.put_line.new.out.octets c.min-count.result _ are (some_of _ (sym c.is_empty.ensures ∙ c.loop-rest-test.true)) (omega (arith, c.min-count.ensures)) refl c.loop-rest.invariant (c.in_ok-put_line.ensures)

pub returns : goal.returns
returns c =
    let none : length c.loop-rest.rest.now ≡ 0 = eqb-true _ 0 (sym c.is_empty.ensures ∙ c.loop-rest-test.false) in
    cut_whole c.args.side c.args.octets.now c.loop-rest.rest.now c.args.out.now.octets c.loop-rest.out.octets none c.loop-rest.invariant
