use Rattle.std.proofs.Common.{subst}
use Rattle.beep_input.specs.Listing.{Gathers}
use Rattle.beep_input.proofs.FedLemmas.{gives, stops}
use Rattle.beep_input.proofs.lines.read_lines.Goals as goal

pub returns-in-Ok-true-clause-ok : goal.returns-in-Ok-true-clause-ok
returns-in-Ok-true-clause-ok g c =
    let h = subst (λ b. Gathers b c.gather.new.gathered (g.I.Source.state c.args.input.now) (g.I.Source.state c.gather.new.input)) c.in-Ok-true.field-0-test c.in-Ok-true.ensures.ok in
    gives h.0 c.gather.new.gathered (g.I.Source.state c.args.input.now) (g.I.Source.state c.gather.new.input) h.1 h.2 c.finish.result (c.finish.ensures.ok h.0 h.1.holds)

pub returns-in-Ok-true-clause-err : goal.returns-in-Ok-true-clause-err
returns-in-Ok-true-clause-err g c =
    let h = subst (λ b. Gathers b c.gather.new.gathered (g.I.Source.state c.args.input.now) (g.I.Source.state c.gather.new.input)) c.in-Ok-true.field-0-test c.in-Ok-true.ensures.ok in
    stops h.0 c.gather.new.gathered (g.I.Source.state c.args.input.now) (g.I.Source.state c.gather.new.input) h.1 h.2 c.finish.result (c.finish.ensures.err h.0 h.1.holds)

pub returns-in-Ok-false-clause-ok : goal.returns-in-Ok-false-clause-ok
returns-in-Ok-false-clause-ok g c =
    let h = subst (λ b. Gathers b c.gather.new.gathered (g.I.Source.state c.args.input.now) (g.I.Source.state c.gather.new.input)) c.in-Ok-false.field-0-test c.in-Ok-false.ensures.ok in
    c.end_or_past.ensures.ok _ h

pub returns-in-Ok-false-clause-err : goal.returns-in-Ok-false-clause-err
returns-in-Ok-false-clause-err g c =
    let h = subst (λ b. Gathers b c.gather.new.gathered (g.I.Source.state c.args.input.now) (g.I.Source.state c.gather.new.input)) c.in-Ok-false.field-0-test c.in-Ok-false.ensures.ok in
    c.end_or_past.ensures.err _ h
