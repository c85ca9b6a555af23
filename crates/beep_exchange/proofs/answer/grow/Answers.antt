-- One more answer is grown in its place.
use Rattle.std.proofs.Common.{arith, get_or}
use Rattle.std.proofs.lemmas.List.{get_or_default}
use Rattle.std.proofs.lemmas.List.Edits.{map_over_more}
use Rattle.beep_exchange.specs.Kept.{grown}
use Rattle.beep_exchange.proofs.answer.grow.Goals as goal

pub loop-i-preserved : goal.loop-i-preserved
loop-i-preserved c =
    rw c.grown.ensures (map_over_more (grown c.args.number c.args.size) c.args.answers.now c.loop-i.answers c.loop-i.i
    (get_or c.loop-i.answers c.loop-i.i (record { number = 0; octets = 0 })) (omega arith) c.loop-i.invariant
    (get_or_default c.loop-i.answers c.loop-i.i _ _ (omega arith)))
