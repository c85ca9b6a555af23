-- Each event uses one octet at least, so that all are used.
use Rattle.std.proofs.Common.{◌≡◌, ◌∙◌, ◌+◌, sym, subst, length, take, arith}
use Rattle.beep_steps.specs.beep_journal.specs.Log.{got_all}
use Rattle.beep_steps.specs.beep_session.specs.Lawfully.{terms_of}
use Rattle.beep_steps.specs.beep_talk.specs.declared.plan.Command.{Command}
use Rattle.beep_steps.specs.beep_talk.specs.Plan.{PlainPlan}
use Rattle.beep_steps.specs.Refusing.{IsUnrefused, RefusesOn}
use Rattle.beep_steps.specs.Sending.{StopsSending}
use Rattle.beep_steps.proofs.OnLemmas.{got-last, got-more, got-whole, length-rest, rest-some}
use Rattle.beep_sender.specs.Sender.{plan_of, AsksBy, ScriptsBy, SendsBy}
use Rattle.beep_sender.proofs.RefusedLemmas.{as-closing}
use Rattle.beep_sender.proofs.sender.Sender.hear_all.Goals as goal

pub returns-in-Err-clause-stopped : goal.returns-in-Err-clause-stopped
returns-in-Err-clause-stopped c log s =
    let bytes = c.args.bytes.now in
    subst (λ (plan : PlainPlan). StopsSending plan c.in-Err.stop (got_all bytes log)) c.loop.invariant.plan
    (subst (StopsSending (plan_of c.loop.self) c.in-Err.stop) (got-last c.loop.at bytes log)
    (c.in-Err.ensures.stopped (got_all (take c.loop.at bytes) log) (c.loop.invariant.sends log s)))

pub returns-clause-heard : goal.returns-clause-heard
returns-clause-heard c log s =
    let m = c.loop.invariant.more log s in
    let w = c.loop.invariant.within in
    let whole : c.loop.at ≡ length c.args.bytes.now = omega (arith, m, w, c.loop-test.false) in
    subst (SendsBy c.loop.self) (got-whole c.loop.at c.args.bytes.now log whole) (c.loop.invariant.sends log s)

pub returns-then-bytes-at-clause-heard : goal.returns-then-bytes-at-clause-heard
returns-then-bytes-at-clause-heard c log s =
    let w = c.loop.invariant.within in
    let whole : c.loop.at ≡ length c.args.bytes.now = omega (arith, w, c.if-bytes-at.true) in
    subst (SendsBy c.loop.self) (got-whole c.loop.at c.args.bytes.now log whole) (c.loop.invariant.sends log s)

pub returns-clause-scripted : goal.returns-clause-scripted
returns-clause-scripted c log s =
    let m = c.loop.invariant.more log s.sends in
    let w = c.loop.invariant.within in
    let whole : c.loop.at ≡ length c.args.bytes.now = omega (arith, m, w, c.loop-test.false) in
    subst (ScriptsBy c.loop.self) (got-whole c.loop.at c.args.bytes.now log whole) (c.loop.invariant.scripted log s)

pub returns-then-bytes-at-clause-scripted : goal.returns-then-bytes-at-clause-scripted
returns-then-bytes-at-clause-scripted c log s =
    let w = c.loop.invariant.within in
    let whole : c.loop.at ≡ length c.args.bytes.now = omega (arith, w, c.if-bytes-at.true) in
    subst (ScriptsBy c.loop.self) (got-whole c.loop.at c.args.bytes.now log whole) (c.loop.invariant.scripted log s)

pub loop-preserved : goal.loop-preserved
loop-preserved c =
    let bytes = c.args.bytes.now in
    let i = c.loop.invariant in
    let e = c.in-Ok.ensures in
    record {
      within = omega (arith, i.within, e.within, length-rest c.loop.at bytes);
      plan = c.hear_some.ensures.plan ∙ i.plan;
      sends = λ log s. subst (SendsBy c.hear_some.new.self) (got-more c.loop.at c.in-Ok.count bytes log) (e.heard (got_all (take c.loop.at bytes) log) (i.sends log s));
      scripted = λ log s. subst (ScriptsBy c.hear_some.new.self) (got-more c.loop.at c.in-Ok.count bytes log) (e.scripted (got_all (take c.loop.at bytes) log) (i.scripted log s));
      asking = λ log s. subst (AsksBy c.hear_some.new.self) (got-more c.loop.at c.in-Ok.count bytes log) (e.asking (got_all (take c.loop.at bytes) log) (i.asking log s));
      closing = c.hear_some.ensures.closing ∙ i.closing;
      unrefused = λ log s u.
          let front = got_all (take c.loop.at bytes) log in
          as-closing Command.Send (got_all (take (c.loop.at + c.in-Ok.count) bytes) log) c.args.self.now.is_closing c.loop.self.is_closing (sym i.closing)
          (subst (IsUnrefused Command.Send c.loop.self.is_closing) (got-more c.loop.at c.in-Ok.count bytes log)
          (e.unrefused front (i.sends log s) (as-closing Command.Send front c.loop.self.is_closing c.args.self.now.is_closing i.closing (i.unrefused log s u))));
      more = λ log s.
          let some = e.more (got_all (take c.loop.at bytes) log) (i.sends log s) (rest-some c.loop.at bytes (omega (arith, c.if-bytes-at.false))) in
          omega (arith, some, i.more log s);
    }

pub returns-clause-unrefused : goal.returns-clause-unrefused
returns-clause-unrefused c log s u =
    let m = c.loop.invariant.more log s in
    let w = c.loop.invariant.within in
    let whole : c.loop.at ≡ length c.args.bytes.now = omega (arith, m, w, c.loop-test.false) in
    subst (IsUnrefused Command.Send c.args.self.now.is_closing) (got-whole c.loop.at c.args.bytes.now log whole) (c.loop.invariant.unrefused log s u)

pub returns-then-bytes-at-clause-unrefused : goal.returns-then-bytes-at-clause-unrefused
returns-then-bytes-at-clause-unrefused c log s u =
    let w = c.loop.invariant.within in
    let whole : c.loop.at ≡ length c.args.bytes.now = omega (arith, w, c.if-bytes-at.true) in
    subst (IsUnrefused Command.Send c.args.self.now.is_closing) (got-whole c.loop.at c.args.bytes.now log whole) (c.loop.invariant.unrefused log s u)

pub returns-in-Err-clause-refuses : goal.returns-in-Err-clause-refuses
returns-in-Err-clause-refuses c log s u =
    let bytes = c.args.bytes.now in
    let front = got_all (take c.loop.at bytes) log in
    let i = c.loop.invariant in
    subst (λ (plan : PlainPlan). RefusesOn plan.terms c.in-Err.stop (got_all bytes log)) i.plan
    (subst (RefusesOn (terms_of c.loop.self.session) c.in-Err.stop) (got-last c.loop.at bytes log)
    (c.in-Err.ensures.refuses front (i.sends log s) (as-closing Command.Send front c.loop.self.is_closing c.args.self.now.is_closing i.closing (i.unrefused log s u))))

pub returns-clause-asking : goal.returns-clause-asking
returns-clause-asking c log s =
    let m = c.loop.invariant.more log s.0.sends in
    let w = c.loop.invariant.within in
    let whole : c.loop.at ≡ length c.args.bytes.now = omega (arith, m, w, c.loop-test.false) in
    subst (AsksBy c.loop.self) (got-whole c.loop.at c.args.bytes.now log whole) (c.loop.invariant.asking log s)

pub returns-then-bytes-at-clause-asking : goal.returns-then-bytes-at-clause-asking
returns-then-bytes-at-clause-asking c log s =
    let w = c.loop.invariant.within in
    let whole : c.loop.at ≡ length c.args.bytes.now = omega (arith, w, c.if-bytes-at.true) in
    subst (AsksBy c.loop.self) (got-whole c.loop.at c.args.bytes.now log whole) (c.loop.invariant.asking log s)
