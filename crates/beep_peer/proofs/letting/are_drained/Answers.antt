-- Each number has its place.
use Rattle.std.proofs.Common.{refl, arith}
use Rattle.std.proofs.lemmas.Bool.Decides.{nat_tests}
use Rattle.beep_peer.proofs.DrainedLemmas.{drained-all}
use Rattle.beep_peer.proofs.letting.are_drained.Goals as goal

pub returns : goal.returns
returns c = (
  λ are. drained-all c.args.lives.now c.loop-i.i (grind (arith, nat_tests, c.loop-i-test.false, c.len-i-end.ensures)) c.loop-i.invariant.drained,
  λ all. refl,
)
