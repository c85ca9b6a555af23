-- A part of an answer to the first request goes on with it or ends it, and no other changes anything.
use Rattle.std.proofs.Common.{◌≡◌, true, false, subst, rules}
use Rattle.beep_lines.specs.Lines.{GathersAll, GathersSome}
use Rattle.beep_steps.proofs.OnLemmas.{ok-then}
use Rattle.beep_listener.specs.Listening.{is_first}
use Rattle.beep_listener.proofs.PartLemmas.{gathers-less, gathers-none, lines-more, lines-other, lines-over, other-part, part-more, part-over, err-then}
use Rattle.beep_listener.proofs.listener.Listener.took.Goals as goal

pub returns-then-not-is_first_answer-clause-bodies : goal.returns-then-not-is_first_answer-clause-bodies
returns-then-not-is_first_answer-clause-bodies g c =
    let part = c.args.part in
    let none : is_first part.tag ≡ false = search rules in
    other-part c.args.number part.tag _ part.ended c.args.self.now.bodies none

pub returns-then-not-is_first_answer-clause-ok : goal.returns-then-not-is_first_answer-clause-ok
returns-then-not-is_first_answer-clause-ok g c =
    let a = c.args.self.now in
    let none : is_first c.args.part.tag ≡ false = search rules in
    gathers-none (g.O.Sink.state c.args.output.now).written a.lines.octets.octets _ (lines-other c.args.number c.args.part a.taken.items a.bodies none)

pub returns-then-part-clause-bodies : goal.returns-then-part-clause-bodies
returns-then-part-clause-bodies g c =
    let a = c.args.self.now in
    let first : is_first c.args.part.tag ≡ true = search rules in
    ok-then c.finish.result _ _ (λ o. part-over c.args.number c.args.part a.taken.items a.bodies c.finish.new.self.bodies first c.if-part.true o) c.finish.ensures.bodies

pub returns-then-part-clause-ok : goal.returns-then-part-clause-ok
returns-then-part-clause-ok g c =
    let a = c.args.self.now in
    let state = g.O.Sink.state in
    let first : is_first c.args.part.tag ≡ true = search rules in
    ok-then c.finish.result _ _ (λ o. subst (λ l. GathersAll (state c.args.output.now).written (state c.finish.new.output).written a.lines.octets.octets l c.finish.new.self.lines.octets.octets)
    (lines-over c.args.number c.args.part a.taken.items a.bodies first c.if-part.true) o) c.finish.ensures.ok

pub returns-then-part-clause-err : goal.returns-then-part-clause-err
returns-then-part-clause-err g c =
    let a = c.args.self.now in
    let state = g.O.Sink.state in
    let first : is_first c.args.part.tag ≡ true = search rules in
    err-then c.finish.result _ _ (λ o. subst (λ l. GathersSome (state c.args.output.now).written (state c.finish.new.output).written a.lines.octets.octets l c.finish.new.self.lines.octets.octets)
    (lines-over c.args.number c.args.part a.taken.items a.bodies first c.if-part.true) o) c.finish.ensures.err

pub returns-in-Ok-clause-bodies : goal.returns-in-Ok-clause-bodies
returns-in-Ok-clause-bodies g c =
    let a = c.args.self.now in
    let first : is_first c.args.part.tag ≡ true = search rules in
    part-more c.args.number c.args.part a.taken.items a.bodies c.extend.new.self first c.if-part.false (search rules)

pub returns-in-Ok-clause-ok : goal.returns-in-Ok-clause-ok
returns-in-Ok-clause-ok g c =
    let a = c.args.self.now in
    let first : is_first c.args.part.tag ≡ true = search rules in
    gathers-none (g.O.Sink.state c.args.output.now).written a.lines.octets.octets _ (lines-more c.args.number c.args.part a.taken.items a.bodies first c.if-part.false)

pub returns-in-Err-clause-err : goal.returns-in-Err-clause-err
returns-in-Err-clause-err g c = gathers-less (g.O.Sink.state c.args.output.now).written c.args.self.now.lines.octets.octets _
