-- A good ackno acknowledges no more than has passed.
use Rattle.std.proofs.Common.{◌∙◌}
use Rattle.beep_judge.proofs.FlowLemmas.{newly-is, good-within}
use Rattle.beep_judge.proofs.flow.Flow.ack.Goals as goal

pub overflow_sub-self : goal.overflow_sub-self
overflow_sub-self c =
    good-within c.args.self.now.acked c.args.self.now.unacked c.minus.result c.args.ackno
    (newly-is c.args.self.now.acked c.minus.result c.args.ackno c.minus.type_inv c.ranges.ackno.fits (c.minus.ensures ∙ c.new-ackno.ensures))
    c.requires.good
