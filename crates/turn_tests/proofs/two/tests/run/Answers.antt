-- Each link is as it was given.
use Rattle.std.proofs.Common.{ℕ, arith, subst, sym}
use Rattle.beep_wires.specs.Links.{IsFresh}
use Rattle.turn_tests.specs.Going.{IsGoing}
use Rattle.turn_tests.proofs.two.tests.run.Goals as goal

pub take_turns-which-requires-clause-one : goal.take_turns-which-requires-clause-one
take_turns-which-requires-clause-one g c =
    let W = g.W.Wires in
    let given = c.in-Ok.ensures in
    let next = c.in-Ok-accept.ensures in
    subst (λ (at : ℕ). IsGoing (W.state c.accept-2.new.self at) c.new-one.result.reads c.new-one.result.left) (sym c.new-one.ensures.link)
    (c.new-one.ensures.going (W.state c.accept-2.new.self c.in-Ok.link)
    (subst IsFresh (sym (next.others c.in-Ok.link (λ e. absurd (omega (arith, given.number, given.given, next.number, e))))) given.fresh))

pub take_turns-which-requires-clause-other : goal.take_turns-which-requires-clause-other
take_turns-which-requires-clause-other g c =
    let W = g.W.Wires in
    subst (λ (at : ℕ). IsGoing (W.state c.accept-2.new.self at) c.new-other.result.reads c.new-other.result.left) (sym c.new-other.ensures.link)
    (c.new-other.ensures.going (W.state c.accept-2.new.self c.in-Ok-accept.other_link) c.in-Ok-accept.ensures.fresh)
