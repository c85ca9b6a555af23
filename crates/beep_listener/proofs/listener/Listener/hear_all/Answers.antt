-- Each event uses one octet at least, so that all are used.
use Rattle.std.proofs.Common.{◌≡◌, ◌∙◌, ◌++◌, ◌+◌, refl, subst, length, take, arith}
use Rattle.beep_steps.specs.beep_journal.specs.Log.{got_all}
use Rattle.beep_steps.specs.beep_link.proofs.StandLemmas.{grown-more, grown-none, text-map}
use Rattle.beep_steps.specs.beep_session.specs.Lawfully.{terms_of}
use Rattle.beep_steps.specs.beep_talk.specs.Plan.{PlainPlan}
use Rattle.beep_steps.specs.Logs.{StopsOn}
use Rattle.beep_steps.specs.Refusing.{RefusesOn}
use Rattle.beep_steps.specs.Serving.{ServesOn}
use Rattle.beep_steps.proofs.OnLemmas.{got-last, got-more, got-whole, length-rest, rest-some}
use Rattle.beep_listener.specs.Listening.{Listens, UnrefusedOn, WritesLines, is_gathered, plan_of}
use Rattle.beep_listener.proofs.HearLemmas.{text-here, text-then}
use Rattle.beep_listener.specs.Speaking.{SpeaksBy}
use Rattle.beep_listener.proofs.listener.Listener.hear_all.Goals as goal

pub returns-in-Err-clause-stopped : goal.returns-in-Err-clause-stopped
returns-in-Err-clause-stopped g c log text s =
    let bytes = c.args.bytes.now in
    let w = c.loop.invariant.listens log text s in
    subst (λ (p : PlainPlan). StopsOn p.terms c.in-Err.stop (got_all bytes log)) c.loop.invariant.plan
    (subst (StopsOn (terms_of c.loop.self.session) c.in-Err.stop) (got-last c.loop.at bytes log)
    (c.in-Err.ensures.stopped (got_all (take c.loop.at bytes) log) w.2.on))

pub returns-in-Err-clause-wrote : goal.returns-in-Err-clause-wrote
returns-in-Err-clause-wrote g c log text s =
    let state = g.O.Sink.state in
    let bytes = c.args.bytes.now in
    let l = c.loop.self in
    let front = got_all (take c.loop.at bytes) log in
    let before = (state c.args.output.now).written in
    let mid = (state c.loop.output).written in
    let after = (state c.hear_some.new.output).written in
    let whole = is_gathered c.in-Err.stop in
    let buffer = c.hear_some.new.self.lines.octets.octets in
    text-then (λ t. Listens l.session l.bodies l.lines.octets.octets front t) (λ t. WritesLines (plan_of c.args.self.now.session) whole (got_all bytes log) (t ++ buffer)) text before mid after
    (λ more t. text-map mid after _ _ (λ two w. subst (λ (p : PlainPlan). WritesLines p whole (got_all bytes log) (((text ++ more) ++ two) ++ buffer)) c.loop.invariant.plan
    (subst (λ x. WritesLines (plan_of l.session) whole x (((text ++ more) ++ two) ++ buffer)) (got-last c.loop.at bytes log) w)) (c.in-Err.ensures.wrote front (text ++ more) t))
    (c.loop.invariant.listens log text s)

pub returns-clause-heard : goal.returns-clause-heard
returns-clause-heard g c log text s =
    let bytes = c.args.bytes.now in
    let state = g.O.Sink.state in
    let l = c.loop.self in
    let m = c.loop.invariant.more log text s in
    let w = c.loop.invariant.within in
    let whole : c.loop.at ≡ length bytes = omega (arith, m, w, c.loop-test.false) in
    text-map (state c.args.output.now).written (state c.loop.output).written _ _
    (λ more t. subst (λ x. Listens l.session l.bodies l.lines.octets.octets x (text ++ more)) (got-whole c.loop.at bytes log whole) t) (c.loop.invariant.listens log text s)

pub returns-then-bytes-at-clause-heard : goal.returns-then-bytes-at-clause-heard
returns-then-bytes-at-clause-heard g c log text s =
    let bytes = c.args.bytes.now in
    let state = g.O.Sink.state in
    let l = c.loop.self in
    let w = c.loop.invariant.within in
    let whole : c.loop.at ≡ length bytes = omega (arith, w, c.if-bytes-at.true) in
    text-map (state c.args.output.now).written (state c.loop.output).written _ _
    (λ more t. subst (λ x. Listens l.session l.bodies l.lines.octets.octets x (text ++ more)) (got-whole c.loop.at bytes log whole) t) (c.loop.invariant.listens log text s)

pub returns-in-Err-clause-grew : goal.returns-in-Err-clause-grew
returns-in-Err-clause-grew g c = grown-more _ (g.O.Sink.state c.loop.output).written _ c.loop.invariant.grew c.hear_some.ensures.grew

pub loop-init : goal.loop-init
loop-init g c = record {
  within = omega arith;
  plan = refl;
  listens = λ log text l.
      let a = c.args.self.now in
      text-here text (g.O.Sink.state c.args.output.now).written (λ t. Listens a.session a.bodies a.lines.octets.octets log t) l;
  serving = λ plan log s. s;
  speaking = λ plan log text l v s. s;
  unrefused = λ log u. u;
  goes = λ log u. omega arith;
  used = λ plan log s. omega arith;
  more = λ log text l. omega arith;
  grew = grown-none (g.O.Sink.state c.args.output.now).written;
  kept = omega arith;
}

pub loop-preserved : goal.loop-preserved
loop-preserved g c =
    let state = g.O.Sink.state in
    let bytes = c.args.bytes.now in
    let i = c.loop.invariant in
    let e = c.in-Ok.ensures in
    let l = c.loop.self in
    let n = c.hear_some.new.self in
    record {
      within = omega (arith, i.within, e.within, length-rest c.loop.at bytes);
      plan = c.hear_some.ensures.plan ∙ i.plan;
      listens = λ log text s.
          let front = got_all (take c.loop.at bytes) log in
          text-then (λ t. Listens l.session l.bodies l.lines.octets.octets front t)
          (λ t. Listens n.session n.bodies n.lines.octets.octets (got_all (take (c.loop.at + c.in-Ok.count) bytes) log) t) text
          (state c.args.output.now).written (state c.loop.output).written (state c.hear_some.new.output).written
          (λ more t. text-map (state c.loop.output).written (state c.hear_some.new.output).written _ _
          (λ two h. subst (λ x. Listens n.session n.bodies n.lines.octets.octets x ((text ++ more) ++ two)) (got-more c.loop.at c.in-Ok.count bytes log) h) (e.heard front (text ++ more) t))
          (i.listens log text s);
      serving = λ plan log s.
          subst (ServesOn plan n.session) (got-more c.loop.at c.in-Ok.count bytes log) (e.serving plan (got_all (take c.loop.at bytes) log) (i.serving plan log s));
      speaking = λ plan log text k v s.
          let now = i.listens log text k in
          subst (SpeaksBy plan n) (got-more c.loop.at c.in-Ok.count bytes log)
          (e.speaking plan (got_all (take c.loop.at bytes) log) (text ++ now.0) now.2 (i.serving plan log v) (i.speaking plan log text k v s));
      unrefused = λ log u.
          subst (UnrefusedOn n.session) (got-more c.loop.at c.in-Ok.count bytes log) (e.unrefused (got_all (take c.loop.at bytes) log) (i.unrefused log u));
      goes = λ log u.
          let some = e.more (got_all (take c.loop.at bytes) log) (i.unrefused log u).on (rest-some c.loop.at bytes (omega (arith, c.if-bytes-at.false))) in
          omega (arith, some, i.goes log u);
      used = λ plan log s.
          let some = e.more (got_all (take c.loop.at bytes) log) (i.serving plan log s).on (rest-some c.loop.at bytes (omega (arith, c.if-bytes-at.false))) in
          omega (arith, some, i.used plan log s);
      more = λ log text s.
          let some = e.more (got_all (take c.loop.at bytes) log) (i.listens log text s).2.on (rest-some c.loop.at bytes (omega (arith, c.if-bytes-at.false))) in
          omega (arith, some, i.more log text s);
      grew = grown-more _ (state c.loop.output).written _ i.grew c.hear_some.ensures.grew;
      kept = omega (arith, i.kept, c.hear_some.ensures.kept);
    }

pub returns-then-bytes-at-clause-serving : goal.returns-then-bytes-at-clause-serving
returns-then-bytes-at-clause-serving g c plan log s =
    let bytes = c.args.bytes.now in
    let w = c.loop.invariant.within in
    let whole : c.loop.at ≡ length bytes = omega (arith, w, c.if-bytes-at.true) in
    subst (ServesOn plan c.loop.self.session) (got-whole c.loop.at bytes log whole) (c.loop.invariant.serving plan log s)

pub returns-clause-serving : goal.returns-clause-serving
returns-clause-serving g c plan log s =
    let bytes = c.args.bytes.now in
    let m = c.loop.invariant.used plan log s in
    let w = c.loop.invariant.within in
    let whole : c.loop.at ≡ length bytes = omega (arith, m, w, c.loop-test.false) in
    subst (ServesOn plan c.loop.self.session) (got-whole c.loop.at bytes log whole) (c.loop.invariant.serving plan log s)

pub returns-then-bytes-at-clause-speaking : goal.returns-then-bytes-at-clause-speaking
returns-then-bytes-at-clause-speaking g c plan log text k v s =
    let bytes = c.args.bytes.now in
    let w = c.loop.invariant.within in
    let whole : c.loop.at ≡ length bytes = omega (arith, w, c.if-bytes-at.true) in
    subst (SpeaksBy plan c.loop.self) (got-whole c.loop.at bytes log whole) (c.loop.invariant.speaking plan log text k v s)

pub returns-clause-speaking : goal.returns-clause-speaking
returns-clause-speaking g c plan log text k v s =
    let bytes = c.args.bytes.now in
    let m = c.loop.invariant.used plan log v in
    let w = c.loop.invariant.within in
    let whole : c.loop.at ≡ length bytes = omega (arith, m, w, c.loop-test.false) in
    subst (SpeaksBy plan c.loop.self) (got-whole c.loop.at bytes log whole) (c.loop.invariant.speaking plan log text k v s)

pub returns-then-bytes-at-clause-unrefused : goal.returns-then-bytes-at-clause-unrefused
returns-then-bytes-at-clause-unrefused g c log u =
    let bytes = c.args.bytes.now in
    let w = c.loop.invariant.within in
    let whole : c.loop.at ≡ length bytes = omega (arith, w, c.if-bytes-at.true) in
    subst (UnrefusedOn c.loop.self.session) (got-whole c.loop.at bytes log whole) (c.loop.invariant.unrefused log u)

pub returns-clause-unrefused : goal.returns-clause-unrefused
returns-clause-unrefused g c log u =
    let bytes = c.args.bytes.now in
    let m = c.loop.invariant.goes log u in
    let w = c.loop.invariant.within in
    let whole : c.loop.at ≡ length bytes = omega (arith, m, w, c.loop-test.false) in
    subst (UnrefusedOn c.loop.self.session) (got-whole c.loop.at bytes log whole) (c.loop.invariant.unrefused log u)

pub returns-in-Err-clause-refuses : goal.returns-in-Err-clause-refuses
returns-in-Err-clause-refuses g c log u =
    let bytes = c.args.bytes.now in
    subst (λ (p : PlainPlan). RefusesOn p.terms c.in-Err.stop (got_all bytes log)) c.loop.invariant.plan
    (subst (RefusesOn (terms_of c.loop.self.session) c.in-Err.stop) (got-last c.loop.at bytes log)
    (c.in-Err.ensures.refuses (got_all (take c.loop.at bytes) log) (c.loop.invariant.unrefused log u)))
