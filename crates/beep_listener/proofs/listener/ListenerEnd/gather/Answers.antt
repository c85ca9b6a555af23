-- What was said and refused joins what is to be written.
use Rattle.std.proofs.Common.{◌≡◌, ◌∙◌, ap, refl, subst, sym, rules, true, false}
use Rattle.beep_steps.specs.beep_journal.specs.Log.{put_all}
use Rattle.beep_steps.specs.Logs.{moments}
use Rattle.beep_steps.specs.Serving.{ServesOn}
use Rattle.beep_listener.specs.Listening.{plan_of}
use Rattle.beep_listener.specs.Speaking.{SpeaksBy}
use Rattle.beep_listener.proofs.listener.ListenerEnd.gather.Goals as goal

pub loop-init : goal.loop-init
loop-init c = record {
  plan = refl;
  listens = λ log text l. l;
  serving = λ plan log s. s;
  unrefused = λ log u. u;
  speaking = λ plan log text l v s. s;
  lines = refl;
}

pub loop-preserved : goal.loop-preserved
loop-preserved c =
    let i = c.loop.invariant in
    let e = c.say_or_refuse.ensures in
    record {
      plan = e.plan ∙ i.plan;
      listens = λ log text l. e.listens log text (i.listens log text l);
      serving = λ plan log s. e.serving plan log (i.serving plan log s);
      speaking = λ plan log text l v s. c.in_ok-say_or_refuse.ensures.speaking plan log (i.serving plan log v) (i.listens log text l).taken (i.speaking plan log text l v s);
      unrefused = λ log u. e.unrefused log (i.unrefused log u);
      lines = e.lines ∙ i.lines;
    }

pub returns-then-not-takes_more-clause-said : goal.returns-then-not-takes_more-clause-said
returns-then-not-takes_more-clause-said c log text s =
    let i = c.loop.invariant in
    let first = plan_of c.args.self.now.session in (
      (
        record { listens = i.listens (moments log) text s.0.0.listens; dry = ap (λ x. x.octets.octets) i.lines ∙ s.0.0.dry },
        subst (λ p. ServesOn p c.loop.self.session (put_all c.loop.out.octets (moments log))) (sym i.plan) (i.serving first (moments log) s.0.1),
        i.unrefused (moments log) s.0.2,
      ),
      subst (λ p. SpeaksBy p c.loop.self (put_all c.loop.out.octets (moments log))) (sym i.plan) (i.speaking first (moments log) text s.0.0.listens s.0.1 s.1),
    )

pub returns-clause-said : goal.returns-clause-said
returns-clause-said c log text s =
    let i = c.loop.invariant in
    let first = plan_of c.args.self.now.session in (
      (
        record { listens = i.listens (moments log) text s.0.0.listens; dry = ap (λ x. x.octets.octets) i.lines ∙ s.0.0.dry },
        subst (λ p. ServesOn p c.loop.self.session (put_all c.loop.out.octets (moments log))) (sym i.plan) (i.serving first (moments log) s.0.1),
        i.unrefused (moments log) s.0.2,
      ),
      subst (λ p. SpeaksBy p c.loop.self (put_all c.loop.out.octets (moments log))) (sym i.plan) (i.speaking first (moments log) text s.0.0.listens s.0.1 s.1),
    )

pub returns-then-not-branch-clause-terms : goal.returns-then-not-branch-clause-terms
returns-then-not-branch-clause-terms c = c.say_or_refuse.ensures.plan ∙ c.loop.invariant.plan

pub returns-then-not-branch-clause-said : goal.returns-then-not-branch-clause-said
returns-then-not-branch-clause-said c log text s =
    let i = c.loop.invariant in
    let e = c.say_or_refuse.ensures in
    let n = c.say_or_refuse.new.self in
    let after = put_all c.say_or_refuse.new.out.octets (moments log) in
    let first = plan_of c.args.self.now.session in
    let plan : plan_of n.session ≡ first = e.plan ∙ i.plan in
    let listens = i.listens (moments log) text s.0.0.listens in
    let serves = i.serving first (moments log) s.0.1 in (
      (
        record { listens = e.listens (moments log) text listens; dry = ap (λ x. x.octets.octets) (e.lines ∙ i.lines) ∙ s.0.0.dry },
        subst (λ p. ServesOn p n.session after) (sym plan) (e.serving first (moments log) serves),
        e.unrefused (moments log) (i.unrefused (moments log) s.0.2),
      ),
      subst (λ p. SpeaksBy p n after) (sym plan)
          (c.in_ok-say_or_refuse.ensures.speaking first (moments log) serves listens.taken (i.speaking first (moments log) text s.0.0.listens s.0.1 s.1)),
    )

-- where it neither said nor refused anything, it rests
pub returns-then-not-branch-clause-rested : goal.returns-then-not-branch-clause-rested
returns-then-not-branch-clause-rested c log text s none =
    c.in_ok-say_or_refuse.ensures.rests (moments log) (c.loop.invariant.listens (moments log) text s.0.0.listens).on (search rules)

pub returns-then-not-takes_more-clause-rested : goal.returns-then-not-takes_more-clause-rested
returns-then-not-takes_more-clause-rested c log text s none = absurd (let h : true ≡ false = none in cc)

pub returns-clause-rested : goal.returns-clause-rested
returns-clause-rested c log text s none = absurd (let h : true ≡ false = none in cc)
