-- The lines of an answer are those of all its octets, and it is over.
use Rattle.std.proofs.Common.{◌≡◌, ◌∙◌, ◌++◌, sym, ap, subst, rules, ◌==◌, length, take, []}
use Rattle.std.specs.Prelude.{OnErr, OnOk}
use Rattle.beep_lines.specs.Bodies.{body_of}
use Rattle.beep_lines.specs.Lines.{GathersAll, GathersSome, lines_of}
use Rattle.beep_steps.proofs.OnLemmas.{ok-then}
use Rattle.beep_listener.proofs.PartLemmas.{empty-of, err-then, gathers-less}
use Rattle.beep_listener.proofs.listener.Listener.finish.Goals as goal

pub returns-then-is_empty-clause-ok : goal.returns-then-is_empty-clause-ok
returns-then-is_empty-clause-ok g c =
    let a = c.args.self.now in
    let state = g.O.Sink.state in
    let octets = take c.args.count a.taken.items in
    let none : body_of c.args.number c.args.ansno a.bodies ≡ [] = empty-of _ (ap (λ x. length x == 0) (sym c.octets.ensures) ∙ sym c.is_empty.ensures ∙ c.if-is_empty.true) in
    let put : OnOk c.put-put.result (GathersAll (state c.args.output.now).written (state c.put-put.new.output).written a.lines.octets.octets (lines_of octets) c.put-put.new.self.octets.octets) = search rules in
    ok-then c.put-put.result _ _ (λ o. subst (λ b. GathersAll (state c.args.output.now).written (state c.put-put.new.output).written a.lines.octets.octets (lines_of (b ++ octets)) c.put-put.new.self.octets.octets)
    (sym none) o) put

pub returns-then-is_empty-clause-err : goal.returns-then-is_empty-clause-err
returns-then-is_empty-clause-err g c =
    let a = c.args.self.now in
    let state = g.O.Sink.state in
    let octets = take c.args.count a.taken.items in
    let none : body_of c.args.number c.args.ansno a.bodies ≡ [] = empty-of _ (ap (λ x. length x == 0) (sym c.octets.ensures) ∙ sym c.is_empty.ensures ∙ c.if-is_empty.true) in
    let put : OnErr c.put-put.result (GathersSome (state c.args.output.now).written (state c.put-put.new.output).written a.lines.octets.octets (lines_of octets) c.put-put.new.self.octets.octets) = subst (λ xs. OnErr c.put-put.result (GathersSome (state c.args.output.now).written (state c.put-put.new.output).written a.lines.octets.octets (lines_of (take c.args.count xs)) c.put-put.new.self.octets.octets))
    c.deref.ensures.value c.put-put.ensures.err in
    err-then c.put-put.result _ _ (λ o. subst (λ b. GathersSome (state c.args.output.now).written (state c.put-put.new.output).written a.lines.octets.octets (lines_of (b ++ octets)) c.put-put.new.self.octets.octets)
    (sym none) o) put

pub returns-in_default-clause-err : goal.returns-in_default-clause-err
returns-in_default-clause-err g c = gathers-less (g.O.Sink.state c.args.output.now).written c.args.self.now.lines.octets.octets _

pub returns-clause-ok : goal.returns-clause-ok
returns-clause-ok g c =
    let a = c.args.self.now in
    let state = g.O.Sink.state in
    let octets = take c.args.count a.taken.items in
    let all : body_of c.args.number c.args.ansno c.extend.new.self ≡ body_of c.args.number c.args.ansno a.bodies ++ octets = search rules in
    ok-then c.put-put-2.result _ _ (λ o. subst (λ m. GathersAll (state c.args.output.now).written (state c.put-put-2.new.output).written a.lines.octets.octets (lines_of m) c.put-put-2.new.self.octets.octets)
    (c.octets-2.ensures ∙ all) o) c.put-put-2.ensures.ok

pub returns-clause-err : goal.returns-clause-err
returns-clause-err g c =
    let a = c.args.self.now in
    let state = g.O.Sink.state in
    let octets = take c.args.count a.taken.items in
    let all : body_of c.args.number c.args.ansno c.extend.new.self ≡ body_of c.args.number c.args.ansno a.bodies ++ octets = search rules in
    err-then c.put-put-2.result _ _ (λ o. subst (λ m. GathersSome (state c.args.output.now).written (state c.put-put-2.new.output).written a.lines.octets.octets (lines_of m) c.put-put-2.new.self.octets.octets)
    (c.octets-2.ensures ∙ all) o) c.put-put-2.ensures.err
