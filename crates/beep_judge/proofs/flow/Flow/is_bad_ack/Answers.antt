-- The test by what is kept is that by counts.
use Rattle.std.proofs.Common.{◌∙◌}
use Rattle.beep_judge.proofs.FlowLemmas.{newly-is, bad-is}
use Rattle.beep_judge.proofs.flow.Flow.is_bad_ack.Goals as goal

pub returns-clause-value : goal.returns-clause-value
returns-clause-value c =
    bad-is c.args.self.now.acked c.args.self.now.unacked c.minus.result c.args.ackno
    (newly-is c.args.self.now.acked c.minus.result c.args.ackno c.minus.type_inv c.ranges.ackno.fits (c.minus.ensures ∙ c.new.ensures))
