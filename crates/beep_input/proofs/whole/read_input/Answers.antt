use Rattle.std.proofs.Common.{◌≡◌, ◌+◌, ◌<◌, ◌≤◌, ◌==◌, true, false, length, sym, ap, ◌∙◌, arith, rules, subst}
use Rattle.std.proofs.lemmas.Bool.Decides.{nat_tests}
use Rattle.std.proofs.lemmas.List.{places}
use Rattle.beep_input.specs.Whole.{IsGathered}
use Rattle.beep_input.proofs.GatherLemmas.{come_none, come_more, come_whole, come_stopped, come_over}
use Rattle.beep_input.proofs.whole.read_input.Goals as goal

pub loop-count-init : goal.loop-count-init
loop-count-init g c = (omega arith, omega (arith, c.new-octets.ensures.len), come_none _ _ c.requires.going)

pub read_piece-requires-clause-going : goal.read_piece-requires-clause-going
read_piece-requires-clause-going g c = c.loop-count.invariant.2.going

pub read_piece-requires-clause-within : goal.read_piece-requires-clause-within
read_piece-requires-clause-within g c =
    let within = c.loop-count.invariant.2.within in
    search (rules, places)

pub read_piece-requires-clause-most : goal.read_piece-requires-clause-most
read_piece-requires-clause-most g c = c.loop-count.invariant.1

pub returns-in-Ok-eq0-clause-ok : goal.returns-in-Ok-eq0-clause-ok
returns-in-Ok-eq0-clause-ok g c =
    let read = c.in-Ok-eq0.ensures in
    let zero : c.in-Ok-eq0.field-0 ≡ 0 = c.in-Ok-eq0.field-0-test in
    let ended : (g.I.Source.state c.read_piece.new.input).ended ≡ true = read.end.0 ∙ ap (λ n. n == 0) zero in
    let nothing = rw zero at read.ok in
    subst (λ x. IsGathered x (g.I.Source.state c.args.input.now) (g.I.Source.state c.read_piece.new.input)) (sym c.truncate.ensures.items) (come_whole c.loop-count.count c.loop-count.octets.items c.read_piece.new.octets.items _ _ _ c.loop-count.invariant.2 read.front nothing (omega (arith, c.loop-count-test.true)) ended (read.end.1 zero))

pub returns-in-Ok-eq0-clause-reads : goal.returns-in-Ok-eq0-clause-reads
returns-in-Ok-eq0-clause-reads g c = omega (arith, c.loop-count.invariant.2.reads, c.in-Ok-eq0.ensures.counted, c.loop-count-test.true)

pub loop-count-preserved : goal.loop-count-preserved
loop-count-preserved g c =
    let read = c.in-Ok.ensures in
    let fits : c.loop-count.count + c.in-Ok.n ≤ length c.read_piece.new.octets.items = search (rules, places) in
    let some : 0 < c.in-Ok.n = omega (arith, c.in-Ok.n-test) in
    let going : (g.I.Source.state c.read_piece.new.input).ended ≡ false = read.end.0 ∙ grind (arith, nat_tests, some) in
    (omega (arith, read.fits, read.within), read.within, come_more c.loop-count.count c.in-Ok.n c.loop-count.octets.items c.read_piece.new.octets.items _ _ _ c.loop-count.invariant.2 read.front read.ok some fits going read.kept read.counted)

pub returns-in-Err-clause-err : goal.returns-in-Err-clause-err
returns-in-Err-clause-err g c = come_stopped c.in-Err.why c.loop-count.count c.loop-count.octets.items _ _ _ c.loop-count.invariant.2 (omega (arith, c.loop-count-test.true)) c.in-Err.ensures.err

pub returns-in-Err-clause-reads : goal.returns-in-Err-clause-reads
returns-in-Err-clause-reads g c = omega (arith, c.loop-count.invariant.2.reads, c.in-Err.ensures.counted, c.loop-count-test.true)

pub returns-clause-ok : goal.returns-clause-ok
returns-clause-ok g c =
    let most : length c.loop-count.octets.items ≤ 16777217 = search (rules, places) in
    subst (λ x. IsGathered x (g.I.Source.state c.args.input.now) (g.I.Source.state c.loop-count.input)) (sym c.truncate-2.ensures.items)
    (come_over c.loop-count.count c.loop-count.octets.items _ _ c.loop-count.invariant.2 (omega (arith, c.loop-count-test.false)) most)

pub returns-clause-reads : goal.returns-clause-reads
returns-clause-reads g c = omega (arith, c.loop-count.invariant.2.reads, c.loop-count.invariant.0)
