use Rattle.std.proofs.Common.{List, [], Ok, Err}
use Rattle.std.specs.declared.result.Result.{Result}
use Rattle.std.specs.Result.{IfOk}
use Rattle.beep_two_sessions.specs.beep_octets.specs.Held.{Held as Octets}
use Rattle.beep_two_sessions.specs.beep_session.specs.declared.limits.Limits.{Limits}
use Rattle.beep_schedule.specs.declared.event.PairEvent.{PairEvent}
use Rattle.beep_pair.specs.Sessions.{Sessions}
use Rattle.beep_pair.specs.World.{Leads}
use Rattle.beep_pair.specs.Report.{Reported}
use Rattle.beep_pair.specs.Command.{AreFresh, ReportsEvents}
use Rattle.beep_pair.proofs.BeginLemmas.{fresh-world}
use Rattle.beep_pair.proofs.command.run_fresh.Goals as goal

-- what was run between these two ends is their report
reported : {E : Type 0} (r : Result Octets E) (limits : Limits) (events : List PairEvent) (first last : Sessions) → AreFresh limits first
    → IfOk r (λ out. Leads (Reported events [] out.octets) first last) → IfOk r (λ out. ReportsEvents limits events out.octets)
reported (Ok out) limits events first last f leads =
    let l = leads f.world (fresh-world limits f.world f.fresh) f.kept in
    record { first = f.world; fresh = f.fresh; last = l.last; reported = l.step }
reported (Err error) limits events first last f leads = tt

pub run_on-requires-clause-ready : goal.run_on-requires-clause-ready
run_on-requires-clause-ready c = c.in-Ok.ensures.ready

pub returns-in-Ok : goal.returns-in-Ok
returns-in-Ok c = reported c.run_on.result c.args.limits c.args.schedule.now c.in-Ok.pair c.run_on.new.pair c.in-Ok.ensures.fresh c.run_on.ensures.reported
