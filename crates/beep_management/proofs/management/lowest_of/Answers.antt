use Rattle.std.proofs.Common.{rules}
use Rattle.beep_management.proofs.AnswerLemmas.{lowest-known, lowest-listed}
use Rattle.beep_management.proofs.management.lowest_of.Goals as goal

pub loop-i-init : goal.loop-i-init
loop-i-init c = lowest-known c.args.known

pub loop-i-preserved : goal.loop-i-preserved
loop-i-preserved c =
    lowest-listed c.args.known c.loop-i.lowest c.args.channels.now.list c.loop-i.i c.number.result c.lower_of.result (search rules) c.loop-i.invariant c.number.ensures c.lower_of.ensures
