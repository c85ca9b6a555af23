use Rattle.beep_pair.proofs.RunLemmas.{summed_between}
use Rattle.beep_pair.proofs.command.summed_fresh.Goals as goal

pub summed_on-requires-clause-ready : goal.summed_on-requires-clause-ready
summed_on-requires-clause-ready c = c.in-Ok.ensures.ready

pub returns-in-Ok : goal.returns-in-Ok
returns-in-Ok c = summed_between c.summed_on.result c.args.limits c.args.seed c.args.schedule.now c.in-Ok.pair c.summed_on.new.pair c.in-Ok.ensures.fresh c.summed_on.ensures
