-- A message that is settled leaves a sender so far.
use Rattle.beep_steps.specs.beep_session.specs.Lawfully.{terms_of}
use Rattle.beep_steps.specs.beep_talk.specs.declared.plan.Command.{Command}
use Rattle.beep_steps.specs.Logs.{command_of}
use Rattle.beep_steps.proofs.CallScripts.{with-terms-scripted}
use Rattle.beep_steps.proofs.CallSends.{with-terms}
use Rattle.beep_steps.specs.Refusing.{RefusesOn, Unrefused}
use Rattle.beep_steps.proofs.OnLemmas.{err-map, ok-then}
use Rattle.beep_steps.proofs.SettledLemmas.{settled-on, settled-stops}
use Rattle.beep_sender.specs.Sender.{plan_of, progress_of, ScriptsBy, SendsBy}
use Rattle.beep_sender.proofs.SenderLemmas.{always-ok}
use Rattle.std.proofs.Common.{◌≡◌, Err, Result, ap, rules, sym, subst}
use Rattle.std.specs.Result.{IfErr}
use Rattle.beep_steps.specs.beep_journal.specs.Log.{got_all}
use Rattle.beep_steps.specs.beep_talk.specs.Plan.{PlainPlan}
use Rattle.beep_steps.specs.Desking.{DesksWithin}
use Rattle.beep_steps.specs.Steps.{SettledOn}
use Rattle.beep_sender.proofs.AskingLemmas.{settled-asking}
use Rattle.beep_sender.specs.Asking.{AsksSettled}
use Rattle.beep_sender.proofs.SenderLemmas.{same-terms}
use Rattle.beep_sender.proofs.sender.Sender.settle.Goals as goal

pub returns-clause-settled : goal.returns-clause-settled
returns-clause-settled c log w =
    let one = c.args.self.now in
    let new = c.settle_message.new.session in
    always-ok c.follow.result (SendsBy c.follow.new.self log)
    (c.follow.ensures.sends log
    (with-terms (plan_of one) (terms_of new) (progress_of one) new log (c.in_ok-settled.ensures.sending (plan_of one) (progress_of one) log w)))

pub returns-clause-scripted : goal.returns-clause-scripted
returns-clause-scripted c log w =
    let one = c.args.self.now in
    let new = c.settle_message.new.session in
    always-ok c.follow.result (ScriptsBy c.follow.new.self log)
    (c.follow.ensures.scripted log
    (with-terms-scripted (plan_of one) (terms_of new) (progress_of one) new log c.settle_message.ensures.terms
    (c.in_ok-settled.ensures.scripted (plan_of one) (progress_of one) log w)))

pub returns-clause-unrefused : goal.returns-clause-unrefused
returns-clause-unrefused c log w u =
    let one = c.args.self.now in
    let k = c.in_ok-settled.ensures.refuses Command.Send one.is_closing log w.on u in
    ok-then c.follow.result _ _ (λ none. settled-on Command.Send one.is_closing c.in_ok-settled.settled log k none) c.follow.ensures.unrefused

pub returns-clause-refuses : goal.returns-clause-refuses
returns-clause-refuses c log octets w u =
    let one = c.args.self.now in
    let k = c.in_ok-settled.ensures.refuses Command.Send one.is_closing log w.on u in
    err-map c.follow.result _ _ (λ stop r. settled-stops Command.Send one.is_closing c.in_ok-settled.settled log k (terms_of one.session) (ap command_of w.sender.role) octets stop r) c.follow.ensures.refuses

-- what is asked for it is asked next
pub returns-clause-asking : goal.returns-clause-asking
returns-clause-asking c log a =
    let one = c.args.self.now in
    let new = c.settle_message.new.session in
    let e = c.in_ok-settled.ensures in
    let w = a.0.sends.on in
    let k : SettledOn one.session new w.head w.payload w.journal log = e.done log w in
    let d : DesksWithin (plan_of one) new log = e.asking (plan_of one) (progress_of one) log a.0 a.1.0 in
    let settled = c.in_ok-settled.settled in
    let next = settled-asking (plan_of one) one.session new log d w.head w.payload w.journal one.asked settled k (k.taken a.1.1) (e.asks (plan_of one) (progress_of one) log a.0.sends) in
    c.follow.ensures.asking log (with-terms-scripted (plan_of one) (terms_of new) (progress_of one) new log c.settle_message.ensures.terms (e.scripted (plan_of one) (progress_of one) log a.0))
    (subst (λ (p : PlainPlan). AsksSettled p one.asked settled new log) (sym (same-terms one.uri.now one.lines.now one.session new c.settle_message.ensures.terms)) next)

-- what holds of the error
err-at : {A E : Type 0} (result : Result A E) (error : E) → result ≡ Err error → (P : E → Type 0) → IfErr result P → P error
err-at {A} {E} result error is P h = subst (λ (r : Result A E). IfErr r P) is h

pub returns-in_err-settled-clause-refuses : goal.returns-in_err-settled-clause-refuses
returns-in_err-settled-clause-refuses c log octets w u =
    let one = c.args.self.now in
    search (
      rules,
      err-at c.settle_message.result _ c.in_err-settled.was (λ stop. RefusesOn (terms_of one.session) stop (got_all octets log))
          (c.settle_message.ensures.unrefusing one.is_closing log octets w.on
          (subst (λ (command : Command). Unrefused command one.is_closing w.on.journal) (sym (ap command_of w.sender.role)) u)),
    )
