-- The message of a refusal has the form of an ERR.
use Rattle.std.proofs.Common.{None, refl}
use Rattle.beep_management.specs.beep_frame.specs.declared.kind.Kind.{Kind}
use Rattle.beep_management.specs.declared.wait.Wait.{Wait}
use Rattle.beep_answering.specs.Sent.{refusal_of}
use Rattle.beep_answering.proofs.DecidedLemmas.{answers, says-same}
use Rattle.beep_answering.proofs.preparing.prepare_refusal.Goals as goal

pub returns-clause-answer : goal.returns-clause-answer
returns-clause-answer c size standing form e =
    answers size form Kind.Err (refusal_of c.args.code) c.in_ok-refusal_text.field-0.octets Wait.Nothing None refl refl (λ position. refl) c.in_ok-refusal_text.ensures tt

pub returns-clause-message : goal.returns-clause-message
returns-clause-message c standing form is = says-same c.in_ok-refusal_text.field-0.octets (refusal_of c.args.code) form c.in_ok-refusal_text.ensures is
