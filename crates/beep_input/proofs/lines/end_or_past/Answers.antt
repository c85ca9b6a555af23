use Rattle.std.proofs.Common.{◌≡◌, ◌==◌, take, drop, ap, ◌∙◌, arith, length-drop}
use Rattle.std.proofs.lemmas.List.{length-take-le}
use Rattle.beep_input.specs.Whole.{HasEnded}
use Rattle.beep_input.proofs.FedLemmas.{fed_same, gives, is_failed, is_past, stops}
use Rattle.beep_input.proofs.lines.end_or_past.Goals as goal

pub returns-in-Ok-eq0-clause-ok : goal.returns-in-Ok-eq0-clause-ok
returns-in-Ok-eq0-clause-ok g c from h =
    let zero : c.in-Ok-eq0.field-0 ≡ 0 = c.in-Ok-eq0.field-0-test in
    let nothing = rw zero at c.in-Ok-eq0.ensures.octets in
    let fed = fed_same h.0 c.args.gathered from _ _ h.1 nothing c.in-Ok-eq0.ensures.kept in
    let ended : HasEnded (g.I.Source.state c.read_at.new.input) = (c.in-Ok-eq0.ensures.end ∙ ap (λ n. n == 0) zero, c.in-Ok-eq0.ensures.at_end zero) in
    gives h.0 c.args.gathered from (g.I.Source.state c.read_at.new.input) fed ended c.finish.result (c.finish.ensures.ok h.0 h.1.holds)

pub returns-in-Ok-eq0-clause-err : goal.returns-in-Ok-eq0-clause-err
returns-in-Ok-eq0-clause-err g c from h =
    let zero : c.in-Ok-eq0.field-0 ≡ 0 = c.in-Ok-eq0.field-0-test in
    let nothing = rw zero at c.in-Ok-eq0.ensures.octets in
    let fed = fed_same h.0 c.args.gathered from _ _ h.1 nothing c.in-Ok-eq0.ensures.kept in
    let ended : HasEnded (g.I.Source.state c.read_at.new.input) = (c.in-Ok-eq0.ensures.end ∙ ap (λ n. n == 0) zero, c.in-Ok-eq0.ensures.at_end zero) in
    stops h.0 c.args.gathered from (g.I.Source.state c.read_at.new.input) fed ended c.finish.result (c.finish.ensures.err h.0 h.1.holds)

pub returns-in-Ok-clause-err : goal.returns-in-Ok-clause-err
returns-in-Ok-clause-err g c from h =
    let buffer = c.read_at.new.buf in
    let n = c.in-Ok.field-0 in
    let one : n ≡ 1 = omega (arith, c.in-Ok.field-0-test, c.in-Ok.ensures.fits, c.in-Ok.ensures.length, c.requires.room) in
    let count = length-take-le n (drop 65535 buffer) (omega (arith, length-drop 65535 buffer, one, c.in-Ok.ensures.length, c.requires.room)) in
    is_past h.0 (take n (drop 65535 buffer)) c.args.gathered from _ _ h.1 c.in-Ok.ensures.octets h.2 (count ∙ one)

pub returns-in-Err-clause-err : goal.returns-in-Err-clause-err
returns-in-Err-clause-err g c from h =
    is_failed h.0 c.args.gathered from _ _ c.in-Err.why c.of.result h.1 c.of.ensures c.in-Err.ensures.failed.0 c.in-Err.ensures.failed.1 c.in-Err.ensures.unread
