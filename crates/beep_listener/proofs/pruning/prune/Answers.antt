-- At the end each answer is over or of a live life.
use Rattle.std.proofs.Common.{◌≡◌, length, arith}
use Rattle.beep_listener.proofs.PruneLemmas.{pruned-all}
use Rattle.beep_listener.proofs.pruning.prune.Goals as goal

pub returns : goal.returns
returns c =
    let i = c.loop-i.invariant in
    let whole : c.loop-i.i ≡ length c.loop-i.bodies = omega (arith, c.loop-i-test.false, c.loop-i.auto.i-end, i.length_is, c.len-i-end.ensures) in
    pruned-all c.args.session.now.peer.lives c.args.bodies.now c.loop-i.bodies c.loop-i.i whole i.before i.kept
