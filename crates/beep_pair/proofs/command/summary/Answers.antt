use Rattle.beep_pair.proofs.RunLemmas.{schedule_is, sums_so}
use Rattle.beep_pair.proofs.command.summary.Goals as goal

pub returns : goal.returns
returns c =
    sums_so c.summed_fresh.result c.args.limits c.args.seed c.in_ok-schedule.schedule (schedule_is c.args.seed c.in_ok-schedule.schedule c.in_ok-schedule.ensures.value) c.summed_fresh.ensures
