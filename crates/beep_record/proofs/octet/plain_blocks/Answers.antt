use Rattle.std.proofs.Common.{◌≡◌, ◌+◌, ◌-◌, ◌∙◌, true, take, drop, ap, sym, arith}
use Rattle.std.proofs.lemmas.List.Folds.{list_all-append}
use Rattle.beep_record.specs.Record.{is_plain}
use Rattle.beep_record.specs.Machine.{are_plain}
use Rattle.beep_record.proofs.OctetLemmas.{both, more_text}
use Rattle.beep_record.proofs.octet.plain_blocks.Goals as goal

pub loop-at-preserved : goal.loop-at-preserved
loop-at-preserved c =
    let octets = c.args.octets.now in
    let at = c.loop-at.at in
    let same : 16 ≡ at + 16 - at = omega arith in
    let next : are_plain (take 16 (drop at octets)) ≡ true = ap (λ n. are_plain (take n (drop at octets))) same ∙ sym c.are_plain.ensures ∙ c.if-are_plain.true in
    record {
      within = omega arith;
      plain = ap are_plain (sym (more_text octets at 16 c.loop-at.invariant.within)) ∙ list_all-append is_plain (take at octets) (take 16 (drop at octets)) ∙ both _ _ c.loop-at.invariant.plain next;
    }
