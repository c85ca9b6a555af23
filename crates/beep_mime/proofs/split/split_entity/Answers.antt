use Rattle.std.proofs.Common.{refl, arith}
use Rattle.std.proofs.lemmas.Bool.Decides.{nat_tests}
use Rattle.beep_mime.proofs.SplitLemmas.{header_len-line}
use Rattle.beep_mime.proofs.split.split_entity.Goals as goal

pub returns-then-len-eq2-clause-value : goal.returns-then-len-eq2-clause-value
returns-then-len-eq2-clause-value c =
    let e = header_len-line c.args.payload.now _ _ c.loop-len.at c.in-Some.len c.loop-len.within c.precedes.result refl (omega (arith, c.in-Some.ensures.within)) c.split_at.ensures.front c.in-Some.ensures.line c.precedes.ensures in
    grind (arith, nat_tests)

pub returns-else-len-eq2-clause-value : goal.returns-else-len-eq2-clause-value
returns-else-len-eq2-clause-value c =
    let e = header_len-line c.args.payload.now _ _ c.loop-len.at c.in-Some.len c.loop-len.within c.precedes.result refl (omega (arith, c.in-Some.ensures.within)) c.split_at.ensures.front c.in-Some.ensures.line c.precedes.ensures in
    grind (arith, nat_tests)

pub loop-len-preserved : goal.loop-len-preserved
loop-len-preserved c =
    let e = header_len-line c.args.payload.now _ _ c.loop-len.at c.in-Some.len c.loop-len.within c.precedes.result refl (omega (arith, c.in-Some.ensures.within)) c.split_at.ensures.front c.in-Some.ensures.line c.precedes.ensures in
    (omega (arith, c.in-Some.ensures.within), grind (arith, nat_tests))
