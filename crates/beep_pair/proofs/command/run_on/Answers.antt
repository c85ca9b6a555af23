use Rattle.std.proofs.Common.{subst}
use Rattle.beep_pair.specs.World.{Leads}
use Rattle.beep_pair.specs.Report.{Reported}
use Rattle.beep_pair.proofs.command.run_on.Goals as goal

pub returns-clause-reported : goal.returns-clause-reported
returns-clause-reported c =
    subst (λ before. Leads (Reported c.args.schedule.now before c.run.new.out.octets) c.args.pair.now c.run.new.self) c.new-out.ensures c.in_ok-run.ensures.reported
