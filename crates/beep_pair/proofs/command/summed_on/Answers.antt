use Rattle.std.proofs.Common.{◌++◌, ◌∙◌, [], ap}
use Rattle.beep_report.specs.Summary.{summary_of}
use Rattle.beep_pair.specs.Report.{Reported}
use Rattle.beep_pair.specs.Command.{Summed}
use Rattle.beep_pair.proofs.LeadLemmas.{leads-as}
use Rattle.beep_pair.proofs.RunLemmas.{summed_so}
use Rattle.beep_pair.proofs.command.summed_on.Goals as goal

pub returns : goal.returns
returns c =
    let summary = summary_of c.args.seed c.len-events.result c.as_slice.result.now c.accounts.result.now c.is_still-still.result in
    leads-as (Reported c.args.schedule.now [] c.in_ok-report.report.octets) (Summed c.args.seed c.args.schedule.now c.put_summary.new.out.octets) c.args.pair.now c.run_on.new.pair
    c.in_ok-report.ensures.reported
    (λ first last wa ka wb kb r. summed_so c.args.seed c.len-events.result c.args.schedule.now c.in_ok-report.report.octets c.as_slice.result.now c.put_summary.new.out.octets
    c.accounts.result.now c.run_on.new.pair first last c.is_still-still.result kb c.is_still-still.ensures r c.len-events.ensures c.as_slice.ensures c.accounts.ensures
    (c.in_ok-put_summary.ensures ∙ ap (λ os. os ++ summary) c.new-out.ensures))
