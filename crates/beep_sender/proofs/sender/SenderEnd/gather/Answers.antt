-- What was said joins what is to be written.
use Rattle.std.proofs.Common.{◌≡◌, ◌∙◌, sym, subst, true, false, rules}
use Rattle.beep_steps.specs.beep_journal.specs.Log.{put_all}
use Rattle.beep_steps.specs.beep_session.specs.Lawfully.{terms_of}
use Rattle.beep_steps.specs.beep_talk.specs.declared.plan.Command.{Command}
use Rattle.beep_steps.specs.Logs.{moments}
use Rattle.beep_steps.specs.Refusing.{closing_by}
use Rattle.beep_steps.specs.Sending.{went_by}
use Rattle.beep_steps.proofs.CallScripts.{with-terms-scripted}
use Rattle.beep_steps.specs.beep_talk.specs.Plan.{PlainPlan}
use Rattle.beep_sender.specs.Asking.{AsksSaid}
use Rattle.beep_sender.specs.Sender.{plan_of, progress_of}
use Rattle.beep_sender.proofs.AskingLemmas.{said-asking}
use Rattle.beep_steps.proofs.ResultLemmas.{on-ok}
use Rattle.beep_sender.proofs.SenderLemmas.{same-terms}
use Rattle.beep_steps.specs.beep_session.specs.Session.{Held}
use Rattle.beep_steps.specs.beep_speaking.specs.declared.emit.Emit.{Emit}
use Rattle.beep_steps.specs.Resting.{HasSaidAll, IsAwake, RestsAfter}
use Rattle.beep_steps.proofs.OnLemmas.{ok-map}
use Rattle.beep_steps.proofs.RestCalls.{awake-before, still-said}
use Rattle.beep_sender.proofs.RefusedLemmas.{as-closing}
use Rattle.beep_sender.proofs.sender.SenderEnd.gather.Goals as goal

pub loop-init : goal.loop-init
loop-init c = record {
  plan = c.refill.ensures.plan;
  scripted = λ log s. (
    (c.refill.ensures.scripted (put_all c.args.out.now.octets log) s.0.0, c.refill.ensures.asking (put_all c.args.out.now.octets log) s.0.1),
    as-closing Command.Send (put_all c.args.out.now.octets log) c.refill.new.self.is_closing c.args.self.now.is_closing c.refill.ensures.closing s.1,
  );
}

pub returns-then-not-takes_more-clause-said : goal.returns-then-not-takes_more-clause-said
returns-then-not-takes_more-clause-said c log text s = c.loop.invariant.scripted (moments log) s

-- what was said, and then what was given
pub returns-then-not-branch-clause-said : goal.returns-then-not-branch-clause-said
returns-then-not-branch-clause-said c log text s =
    let one = c.loop.self in
    let new = c.say_next-said.new.session in
    let said = c.say_next-said.result in
    let out = put_all c.say_next-said.new.out.octets (moments log) in
    let t = c.loop.invariant.scripted (moments log) s in
    let e = c.say_next-said.ensures in
    let f = c.refill-then-not-branch.ensures in
    let x = e.scripted (plan_of one) (progress_of one) (moments log) t.0.0 in
    let a = c.in_ok-said.ensures.asking out (with-terms-scripted (plan_of one) (terms_of new) (went_by said (progress_of one)) new out e.terms x)
    (subst (λ (p : PlainPlan). AsksSaid p (progress_of one) said new out) (sym (same-terms one.uri.now one.lines.now one.session new e.terms))
    (said-asking (plan_of one) (progress_of one) said one.session new (put_all c.loop.out.octets (moments log)) out t.0.0 t.0.1
    (e.asking (plan_of one) (progress_of one) (moments log) t.0.0 t.0.1.0) (e.spoke (moments log) t.0.0.sends.on) (e.ends (plan_of one) (progress_of one) (moments log) t.0.0))) in
    let u = as-closing Command.Send out c.said.new.self.is_closing (closing_by said one.is_closing) c.said.ensures.closing (e.unrefused Command.Send one.is_closing (moments log) t.0.0.sends.on t.1) in
    on-ok c.refill-then-not-branch.result _ ((f.scripted out a.0, f.asking out a.1), as-closing Command.Send out c.refill-then-not-branch.new.self.is_closing c.said.new.self.is_closing f.closing u)

pub returns-then-not-branch-clause-terms : goal.returns-then-not-branch-clause-terms
returns-then-not-branch-clause-terms c =
    let one = c.loop.self in
    c.refill-then-not-branch.ensures.plan ∙ c.said.ensures.plan ∙ same-terms one.uri.now one.lines.now one.session c.say_next-said.new.session c.say_next-said.ensures.terms ∙ c.loop.invariant.plan

-- where nothing went out, and then nothing was given, it rests
pub returns-then-not-branch-clause-rested : goal.returns-then-not-branch-clause-rested
returns-then-not-branch-clause-rested c log text s =
    let t = c.loop.invariant.scripted (moments log) s in
    let m = c.said.new.self.session in
    let n = c.refill-then-not-branch.new.self.session in
    let none = c.in_ok-said.ensures.rests (search rules) in
    let said : IsAwake m → HasSaidAll m =
    subst (λ (x : Held). IsAwake x → HasSaidAll x) (sym none.1)
    (subst (λ (e : Emit). RestsAfter e c.say_next-said.new.session) none.0 (c.say_next-said.ensures.rests (moments log) t.0.0.sends.on)) in
    ok-map c.refill-then-not-branch.result _ _ (λ given r false_is short. let h = r false_is short in λ awake. (still-said m n h.0 (said (awake-before m n h.0 awake)), h.1 awake)) c.refill-then-not-branch.ensures.rests

pub returns-then-not-takes_more-clause-rested : goal.returns-then-not-takes_more-clause-rested
returns-then-not-takes_more-clause-rested c log text s none = absurd (let h : true ≡ false = none in cc)

pub returns-clause-rested : goal.returns-clause-rested
returns-clause-rested c log text s none = absurd (let h : true ≡ false = none in cc)

pub returns-clause-said : goal.returns-clause-said
returns-clause-said c log text s = c.loop.invariant.scripted (moments log) s

pub loop-preserved : goal.loop-preserved
loop-preserved c =
    let one = c.loop.self in
    let new = c.say_next-said.new.session in
    record {
      plan = c.said.ensures.plan ∙ same-terms one.uri.now one.lines.now one.session new c.say_next-said.ensures.terms ∙ c.loop.invariant.plan;
      scripted = λ log s.
          let said = c.say_next-said.result in
          let out = put_all c.say_next-said.new.out.octets log in
          let t = c.loop.invariant.scripted log s in
          let e = c.say_next-said.ensures in
          let x = e.scripted (plan_of one) (progress_of one) log t.0.0 in (
            c.in_ok-said.ensures.asking out (with-terms-scripted (plan_of one) (terms_of new) (went_by said (progress_of one)) new out e.terms x)
                (subst (λ (p : PlainPlan). AsksSaid p (progress_of one) said new out) (sym (same-terms one.uri.now one.lines.now one.session new e.terms))
                (said-asking (plan_of one) (progress_of one) said one.session new (put_all c.loop.out.octets log) out t.0.0 t.0.1
                (e.asking (plan_of one) (progress_of one) log t.0.0 t.0.1.0) (e.spoke log t.0.0.sends.on) (e.ends (plan_of one) (progress_of one) log t.0.0))),
            as-closing Command.Send out c.said.new.self.is_closing (closing_by said one.is_closing) c.said.ensures.closing (e.unrefused Command.Send one.is_closing log t.0.0.sends.on t.1),
          );
    }
