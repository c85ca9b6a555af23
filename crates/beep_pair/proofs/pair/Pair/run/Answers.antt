use Rattle.std.proofs.Common.{◌≤◌, ◌∙◌, ◌++◌, ap, sym, subst, length, arith}
use Rattle.std.specs.List.{flat_map}
use Rattle.beep_report.specs.Texts.{account_lines, still_line}
use Rattle.beep_pair.specs.Sessions.{Sessions}
use Rattle.beep_pair.specs.World.{Leads}
use Rattle.beep_pair.specs.Report.{ReportsEvent, Reported}
use Rattle.beep_pair.proofs.LeadLemmas.{none-leads, leads-then, leads-as}
use Rattle.beep_pair.proofs.RunLemmas.{SoFar, none_made, one_made, event_valid, all_made}
use Rattle.beep_pair.proofs.pair.Pair.run.Goals as goal

pub loop-i-init : goal.loop-i-init
loop-i-init c = record {
  led = none-leads (SoFar c.args.schedule.now 0 c.args.out.now.octets c.args.out.now.octets) c.args.self.now (λ world w k. none_made c.args.schedule.now world c.args.out.now.octets);
  ready = c.requires.ready;
}

pub step-requires-clause-valid : goal.step-requires-clause-valid
step-requires-clause-valid c = event_valid c.args.schedule.now c.loop-i.i c.in-Some.event.now c.requires.valid (sym c.in-Some.ensures)

pub loop-i-preserved : goal.loop-i-preserved
loop-i-preserved c =
    let step_led = subst (λ before. Leads (ReportsEvent c.in-Some.event.now before c.step.new.line.octets) c.loop-i.self c.step.new.self) c.clear.ensures.emptied c.in_ok-step.ensures.appended in
    record {
      led = leads-then (SoFar c.args.schedule.now c.loop-i.i c.args.out.now.octets c.loop-i.out.octets) (ReportsEvent c.in-Some.event.now _ c.step.new.line.octets)
          (SoFar c.args.schedule.now _ c.args.out.now.octets c.extend.new.self.octets) c.args.self.now c.loop-i.self c.step.new.self c.loop-i.invariant.led step_led
          (λ first now next wa ka wb kb wc kc s t. one_made c.args.schedule.now first c.loop-i.i c.in-Some.event.now c.args.out.now.octets c.loop-i.out.octets c.extend.new.self.octets now next
          c.step.new.line.octets (sym c.in-Some.ensures) s t (c.in_ok-extend.ensures.appended ∙ ap (λ t. c.loop-i.out.octets ++ t) c.as_slice.ensures));
      ready = c.in_ok-step.ensures.ready;
    }

pub returns-clause-reported : goal.returns-clause-reported
returns-clause-reported c =
    let end : length c.args.schedule.now ≤ c.loop-i.i = omega arith in
    let accounts = c.as_slice-2.ensures ∙ ap (λ (s : Sessions). s.accounts) c.self-2.view_is in
    leads-as (SoFar c.args.schedule.now c.loop-i.i c.args.out.now.octets c.loop-i.out.octets) (Reported c.args.schedule.now c.args.out.now.octets c.extend-2.new.self.octets) c.args.self.now c.loop-i.self
    c.loop-i.invariant.led
    (λ first now wa ka wb kb s. all_made c.args.schedule.now first now c.loop-i.self c.loop-i.i c.args.out.now.octets c.loop-i.out.octets c.put_still.new.out.octets c.extend-2.new.self.octets
    c.is_still-still.result wb kb end s c.is_still-still.ensures
    (c.in_ok-put_still.ensures ∙ ap (λ t. t ++ still_line c.is_still-still.result) (c.in_ok-put_totals.ensures ∙ ap (λ t. t ++ flat_map account_lines c.as_slice-2.result.now) c.clear-2.ensures.emptied ∙ ap (flat_map account_lines) accounts))
    (c.in_ok-extend-2.ensures.appended ∙ ap (λ t. c.loop-i.out.octets ++ t) c.as_slice-3.ensures))
