use Rattle.std.proofs.Common.{sym, subst}
use Rattle.beep_schedule.specs.Refused.{IsBadAt, Refuses}
use Rattle.beep_pair.proofs.command.report.Goals as goal

pub run_fresh-requires-clause-valid : goal.run_fresh-requires-clause-valid
run_fresh-requires-clause-valid c = c.in-Ok.ensures.value.valid

pub returns-in-Err-BadSchedule : goal.returns-in-Err-BadSchedule
returns-in-Err-BadSchedule c =
    subst (λ number. IsBadAt c.args.text.now number) (sym c.in-Err-BadSchedule.number-is)
    (subst (λ error. Refuses c.args.text.now error) c.in-Err-BadSchedule.field-0-is c.in-Err-BadSchedule.ensures.refused)
