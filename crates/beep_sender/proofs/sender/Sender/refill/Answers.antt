-- What is given is the sender's own.
use Rattle.std.proofs.Common.{refl}
use Rattle.beep_steps.specs.beep_session.specs.Lawfully.{terms_of}
use Rattle.beep_steps.specs.Sending.{at_next}
use Rattle.beep_steps.proofs.CallSends.{with-terms}
use Rattle.beep_sender.specs.Sender.{plan_of, progress_of}
use Rattle.beep_steps.proofs.CallScripts.{with-terms-scripted}
use Rattle.beep_sender.proofs.AskingLemmas.{as-plan}
use Rattle.beep_sender.proofs.SenderLemmas.{same-terms}
use Rattle.beep_sender.proofs.sender.Sender.refill.Goals as goal

pub returns-clause-sends : goal.returns-clause-sends
returns-clause-sends c log s =
    let one = c.args.self.now in
    let new = c.answer_some.new.session in
    with-terms (plan_of one) (terms_of new) (at_next c.answer_some.new.next (progress_of one)) new log
    (c.answer_some.ensures.sends (plan_of one) (progress_of one) refl refl log s)

pub returns-clause-scripted : goal.returns-clause-scripted
returns-clause-scripted c log s =
    let one = c.args.self.now in
    let new = c.answer_some.new.session in
    with-terms-scripted (plan_of one) (terms_of new) (at_next c.answer_some.new.next (progress_of one)) new log c.answer_some.ensures.terms
    (c.answer_some.ensures.scripted (plan_of one) (progress_of one) refl refl log s)

pub returns-clause-asking : goal.returns-clause-asking
returns-clause-asking c log a =
    let one = c.args.self.now in
    let new = c.answer_some.new.session in
    as-plan (plan_of one) _ new log (same-terms one.uri.now one.lines.now one.session new c.answer_some.ensures.terms) (c.answer_some.ensures.asking (plan_of one) log a)

pub returns-clause-rests : goal.returns-clause-rests
returns-clause-rests c = c.answer_some.ensures.rests
