-- Each number has its place.
use Rattle.std.proofs.Common.{refl, arith}
use Rattle.std.proofs.lemmas.Bool.Decides.{nat_tests}
use Rattle.beep_session.proofs.LooksLemmas.{taken-all}
use Rattle.beep_session.proofs.session.looks.are_taken.Goals as goal

pub returns : goal.returns
returns c = (
  λ are. taken-all c.args.lives.now c.loop-i.i (grind (arith, nat_tests, c.loop-i-test.false, c.len-i-end.ensures)) c.loop-i.invariant.taken,
  λ all. refl,
)
