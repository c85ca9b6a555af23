use Rattle.std.proofs.Common.{◌∙◌, ap, sym, take, drop, Some, arith, length-take, length-drop}
use Rattle.std.proofs.lemmas.List.{take_rest}
use Rattle.beep_record.specs.Machine.{run}
use Rattle.beep_record.specs.Reading.{state_of}
use Rattle.beep_record.proofs.OctetLemmas.{more_text}
use Rattle.beep_record.proofs.RunLemmas.{run-append}
use Rattle.beep_record.proofs.reader.Reader.fresh_front.Goals as goal

pub loop-at-preserved : goal.loop-at-preserved
loop-at-preserved c =
    let octets = c.args.octets.now in
    let at = c.loop-at.at in
    let count = c.in_ok-count.count in
    let old = state_of c.args.self.now in
    let mid = state_of c.loop-at.self in
    let goes = ap (λ x. run (Some mid) (take count x)) (sym (take_rest octets at)) ∙ c.in_ok-count.ensures.went in
    record {
      within = grind (arith, length-take, length-drop, c.in_ok-count.ensures.within);
      mode = c.in_ok-count.ensures.mode ∙ c.loop-at.invariant.mode;
      went = ap (run (Some old)) (sym (more_text octets at count c.loop-at.invariant.within)) ∙ run-append (Some old) (take at octets) (take count (drop at octets))
          ∙ ap (λ s. run s (take count (drop at octets))) c.loop-at.invariant.went ∙ goes;
    }
