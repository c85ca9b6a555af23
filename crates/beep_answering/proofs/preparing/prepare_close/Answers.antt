-- The message of a grant has the form of a RPY.
use Rattle.std.proofs.Common.{[], ◌++◌, ℕ, List, None, refl, sym, subst}
use Rattle.beep_management.specs.beep_frame.specs.declared.kind.Kind.{Kind}
use Rattle.beep_management.specs.beep_mgmt.specs.Form.{okay}
use Rattle.beep_management.specs.Manages.{AreFresh}
use Rattle.beep_management.specs.beep_decide.proofs.AnswerLemmas.{closed-form}
use Rattle.beep_answering.proofs.DecidedLemmas.{answers, says-same, closed-number}
use Rattle.beep_answering.proofs.preparing.prepare_close.Goals as goal

pub returns-clause-answer : goal.returns-clause-answer
returns-clause-answer c size standing form e =
    answers size form Kind.Rpy okay c.in_ok-okay_text.field-0.octets c.if-number-eq0.result None refl refl (λ position. closed-form standing position form e)
    c.in_ok-okay_text.ensures
    (subst (λ (numbers : List ℕ). AreFresh size (numbers ++ []) []) (sym (closed-number standing form e)) tt)

pub returns-clause-message : goal.returns-clause-message
returns-clause-message c standing form is = says-same c.in_ok-okay_text.field-0.octets okay form c.in_ok-okay_text.ensures is
