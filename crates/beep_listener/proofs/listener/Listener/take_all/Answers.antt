-- A frame is taken part by part, until none is left.
use Rattle.std.proofs.Common.{◌∙◌, ◌++◌, ◌+◌, refl, false, drop, length, sym, subst, arith}
use Rattle.beep_steps.specs.beep_session.specs.Session.{Held}
use Rattle.beep_steps.specs.beep_inbox.specs.Laws.{part_marks}
use Rattle.beep_lines.specs.Lines.{GathersAll, GathersSome}
use Rattle.beep_steps.specs.beep_link.specs.Causes.{WithText}
use Rattle.beep_steps.specs.beep_link.proofs.StandLemmas.{grown-more, grown-none, take-front, text-map}
use Rattle.beep_steps.specs.Logs.{StaysOn}
use Rattle.beep_steps.specs.Serving.{ServesOn}
use Rattle.beep_steps.proofs.CallLemmas.{stays, stays-trans}
use Rattle.beep_listener.specs.Listening.{Listens, ListensTaking, PartOf, WritesLines, part_lines, plan_of}
use Rattle.beep_listener.proofs.HearLemmas.{err-of, takes-last, takes-less, takes-none, takes-one, text-here, text-then}
use Rattle.beep_listener.proofs.ListenLemmas.{same-plan}
use Rattle.beep_listener.proofs.PartLemmas.{taking-over}
use Rattle.beep_listener.specs.Speaking.{notes_of, TakesOn}
use Rattle.beep_listener.proofs.listener.Listener.take_all.Goals as goal

pub returns-in_default-clause-stays : goal.returns-in_default-clause-stays
returns-in_default-clause-stays g c = stays-trans c.args.self.now.session c.loop.self.session c.take_part.new.session c.loop.invariant.stays c.take_part.ensures.stays

pub returns-in_default-clause-taken : goal.returns-in_default-clause-taken
returns-in_default-clause-taken g c log text t =
    let state = g.O.Sink.state in
    let l = c.loop.self in
    text-map (state c.args.output.now).written (state c.loop.output).written _ _
    (λ more k. takes-none c.args.number c.loop.counter l.session c.take_part.new.session l.bodies l.lines.octets.octets (text ++ more) log k (λ log. c.in_default.ensures.none log)) (c.loop.invariant.taking log text t)

pub returns-clause-taken : goal.returns-clause-taken
returns-clause-taken g c log text t =
    let l = c.loop.self in
    let w = c.loop.invariant.taking log text t in
    let few = taking-over c.args.number c.loop.counter l.session l.bodies l.lines.octets.octets (text ++ w.0) log w.2 in
    absurd (omega (arith, few, c.loop-test.false))

pub returns-in_err-took-clause-stays : goal.returns-in_err-took-clause-stays
returns-in_err-took-clause-stays g c =
    subst (λ (h : Held). StaysOn c.args.self.now.session h) (sym c.took.ensures.session)
    (stays-trans c.args.self.now.session c.loop.self.session c.take_part.new.session c.loop.invariant.stays c.take_part.ensures.stays)

pub returns-in_err-took-clause-wrote : goal.returns-in_err-took-clause-wrote
returns-in_err-took-clause-wrote g c log text t =
    let state = g.O.Sink.state in
    let l = c.loop.self in
    let first = c.args.self.now.session in
    let part = c.in-Some.part in
    let octets = c.take_part.new.buf in
    let same = take-front octets (drop (length octets) l.taken.items) l.taken.len (omega (arith, c.take_part.ensures.length, c.as_mut_slice.ensures.len)) in
    let later = c.took.new.self.lines.octets.octets in
    let kept = c.loop.invariant.stays in
    err-of c.from_residual.result _
    (text-then (λ x. ListensTaking c.args.number c.loop.counter l.session l.bodies l.lines.octets.octets log x) (λ x. WritesLines (plan_of first) false log (x ++ later)) text
    (state c.args.output.now).written (state c.loop.output).written (state c.took.new.output).written
    (λ more k. takes-less c.args.number c.loop.counter l.session c.take_part.new.session l.bodies l.bodies l.lines.octets.octets later (text ++ more) log part octets
    (λ log left. c.in-Some.ensures.part log left) k (plan_of first) (same-plan first l.session kept.terms kept.offers)
    (state c.loop.output).written (state c.took.new.output).written
    (subst (λ x. GathersSome (state c.loop.output).written (state c.took.new.output).written l.lines.octets.octets (part_lines c.args.number part x l.bodies) later) same c.in_err-took.ensures.err)) (c.loop.invariant.taking log text t))

pub returns-in_err-took-clause-grew : goal.returns-in_err-took-clause-grew
returns-in_err-took-clause-grew g c = grown-more _ (g.O.Sink.state c.loop.output).written _ c.loop.invariant.grew c.took.ensures.grew

pub returns-then-is_last-clause-grew : goal.returns-then-is_last-clause-grew
returns-then-is_last-clause-grew g c = grown-more _ (g.O.Sink.state c.loop.output).written _ c.loop.invariant.grew c.took.ensures.grew

pub loop-init : goal.loop-init
loop-init g c = record {
  stays = stays c.args.self.now.session;
  serving = λ plan log s. s;
  speaking = λ plan notes log v s. s;
  noted = refl;
  taking = λ log text t.
      let a = c.args.self.now in
      text-here text (g.O.Sink.state c.args.output.now).written (λ x. ListensTaking c.args.number 0 a.session a.bodies a.lines.octets.octets log x) t;
  grew = grown-none (g.O.Sink.state c.args.output.now).written;
  kept = omega arith;
}

pub loop-preserved : goal.loop-preserved
loop-preserved g c =
    let state = g.O.Sink.state in
    let l = c.loop.self in
    let part = c.in-Some.part in
    let octets = c.take_part.new.buf in
    let same = take-front octets (drop (length octets) l.taken.items) l.taken.len (omega (arith, c.take_part.ensures.length, c.as_mut_slice.ensures.len)) in
    let n = c.took.new.self in
    record {
      stays = subst (λ (h : Held). StaysOn c.args.self.now.session h) (sym c.took.ensures.session)
          (stays-trans c.args.self.now.session c.loop.self.session c.take_part.new.session c.loop.invariant.stays c.take_part.ensures.stays);
      serving = λ plan log s.
          subst (λ (h : Held). ServesOn plan h log) (sym c.took.ensures.session) (c.take_part.ensures.serving plan log (c.loop.invariant.serving plan log s));
      speaking = λ plan notes log v s.
          let b = c.loop.invariant.speaking plan notes log v s in
          subst (λ (h : Held). TakesOn plan notes h log) (sym c.took.ensures.session)
          (c.take_part.ensures.speaking plan notes log b.0, c.take_part.ensures.desk plan notes log (c.loop.invariant.serving plan log v) b.0 b.1);
      noted = c.took.ensures.notes ∙ c.loop.invariant.noted;
      taking = λ log text t.
          text-then (λ x. ListensTaking c.args.number c.loop.counter l.session l.bodies l.lines.octets.octets log x)
          (λ x. ListensTaking c.args.number (c.loop.counter + 1) n.session n.bodies n.lines.octets.octets log x) text
          (state c.args.output.now).written (state c.loop.output).written (state c.took.new.output).written
          (λ more k. subst (λ (h : Held). WithText (state c.loop.output).written (state c.took.new.output).written
          (λ two. ListensTaking c.args.number (c.loop.counter + 1) h n.bodies n.lines.octets.octets log ((text ++ more) ++ two))) (sym c.took.ensures.session)
          (takes-one c.args.number c.loop.counter l.session c.take_part.new.session l.bodies n.bodies l.lines.octets.octets n.lines.octets.octets (text ++ more) log part octets
          (λ log left. c.in-Some.ensures.part log left) k c.take_part.ensures.stays
          (subst (λ x. PartOf c.args.number (part_marks part x) l.bodies n.bodies) same c.in_ok-took.ensures.bodies) (state c.loop.output).written (state c.took.new.output).written
          (subst (λ x. GathersAll (state c.loop.output).written (state c.took.new.output).written l.lines.octets.octets (part_lines c.args.number part x l.bodies) n.lines.octets.octets) same
          c.in_ok-took.ensures.ok)))
          (c.loop.invariant.taking log text t);
      grew = grown-more _ (state c.loop.output).written _ c.loop.invariant.grew c.took.ensures.grew;
      kept = omega (arith, c.loop.invariant.kept, c.took.ensures.kept);
    }

pub returns-in_default-clause-serving : goal.returns-in_default-clause-serving
returns-in_default-clause-serving g c plan log s = c.take_part.ensures.serving plan log (c.loop.invariant.serving plan log s)

pub returns-in_err-took-clause-serving : goal.returns-in_err-took-clause-serving
returns-in_err-took-clause-serving g c plan log s =
    subst (λ (h : Held). ServesOn plan h log) (sym c.took.ensures.session) (c.take_part.ensures.serving plan log (c.loop.invariant.serving plan log s))

pub returns-in_default-clause-speaking : goal.returns-in_default-clause-speaking
returns-in_default-clause-speaking g c plan log v s =
    let a = c.args.self.now in
    let b = c.loop.invariant.speaking plan (notes_of a) log v s in
    subst (λ n. TakesOn plan n c.take_part.new.session log) (sym c.loop.invariant.noted)
    (c.take_part.ensures.speaking plan (notes_of a) log b.0, c.take_part.ensures.desk plan (notes_of a) log (c.loop.invariant.serving plan log v) b.0 b.1)

pub returns-in_err-took-clause-speaking : goal.returns-in_err-took-clause-speaking
returns-in_err-took-clause-speaking g c plan log v s =
    let a = c.args.self.now in
    let n = c.took.new.self in
    let b = c.loop.invariant.speaking plan (notes_of a) log v s in
    subst (λ x. TakesOn plan x n.session log) (sym (c.took.ensures.notes ∙ c.loop.invariant.noted))
    (subst (λ (h : Held). TakesOn plan (notes_of a) h log) (sym c.took.ensures.session)
    (c.take_part.ensures.speaking plan (notes_of a) log b.0, c.take_part.ensures.desk plan (notes_of a) log (c.loop.invariant.serving plan log v) b.0 b.1))

pub returns-clause-speaking : goal.returns-clause-speaking
returns-clause-speaking g c plan log v s =
    let a = c.args.self.now in
    subst (λ n. TakesOn plan n c.loop.self.session log) (sym c.loop.invariant.noted) (c.loop.invariant.speaking plan (notes_of a) log v s)

pub returns-then-is_last-clause-stays : goal.returns-then-is_last-clause-stays
returns-then-is_last-clause-stays g c =
    subst (λ (h : Held). StaysOn c.args.self.now.session h) (sym c.took.ensures.session)
    (stays-trans c.args.self.now.session c.loop.self.session c.take_part.new.session c.loop.invariant.stays c.take_part.ensures.stays)

pub returns-then-is_last-clause-serving : goal.returns-then-is_last-clause-serving
returns-then-is_last-clause-serving g c plan log s =
    subst (λ (h : Held). ServesOn plan h log) (sym c.took.ensures.session) (c.take_part.ensures.serving plan log (c.loop.invariant.serving plan log s))

pub returns-then-is_last-clause-taken : goal.returns-then-is_last-clause-taken
returns-then-is_last-clause-taken g c log text t =
    let state = g.O.Sink.state in
    let l = c.loop.self in
    let part = c.in-Some.part in
    let octets = c.take_part.new.buf in
    let same = take-front octets (drop (length octets) l.taken.items) l.taken.len (omega (arith, c.take_part.ensures.length, c.as_mut_slice.ensures.len)) in
    let n = c.took.new.self in
    text-then (λ x. ListensTaking c.args.number c.loop.counter l.session l.bodies l.lines.octets.octets log x)
    (λ x. Listens n.session n.bodies n.lines.octets.octets log x) text
    (state c.args.output.now).written (state c.loop.output).written (state c.took.new.output).written
    (λ more k. subst (λ (h : Held). WithText (state c.loop.output).written (state c.took.new.output).written
    (λ two. Listens h n.bodies n.lines.octets.octets log ((text ++ more) ++ two))) (sym c.took.ensures.session)
    (takes-last c.args.number c.loop.counter l.session c.take_part.new.session l.bodies n.bodies l.lines.octets.octets n.lines.octets.octets (text ++ more) log part octets
    (λ log left. c.in-Some.ensures.part log left) k c.if-is_last.true c.take_part.ensures.stays
    (subst (λ x. PartOf c.args.number (part_marks part x) l.bodies n.bodies) same c.in_ok-took.ensures.bodies) (state c.loop.output).written (state c.took.new.output).written
    (subst (λ x. GathersAll (state c.loop.output).written (state c.took.new.output).written l.lines.octets.octets (part_lines c.args.number part x l.bodies) n.lines.octets.octets) same
    c.in_ok-took.ensures.ok)))
    (c.loop.invariant.taking log text t)

pub returns-then-is_last-clause-speaking : goal.returns-then-is_last-clause-speaking
returns-then-is_last-clause-speaking g c plan log v s =
    let a = c.args.self.now in
    let n = c.took.new.self in
    let b = c.loop.invariant.speaking plan (notes_of a) log v s in
    subst (λ x. TakesOn plan x n.session log) (sym (c.took.ensures.notes ∙ c.loop.invariant.noted))
    (subst (λ (h : Held). TakesOn plan (notes_of a) h log) (sym c.took.ensures.session)
    (c.take_part.ensures.speaking plan (notes_of a) log b.0, c.take_part.ensures.desk plan (notes_of a) log (c.loop.invariant.serving plan log v) b.0 b.1))
