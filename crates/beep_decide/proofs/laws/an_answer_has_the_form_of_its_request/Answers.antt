use Rattle.std.proofs.Common.{refl}
use Rattle.beep_decide.proofs.AnswerLemmas.{chosen-form, closed-form}
use Rattle.beep_decide.proofs.laws.an_answer_has_the_form_of_its_request.Goals as goal

pub returns : goal.returns
returns c = record {
  refused = λ standing position code request e. refl;
  chosen = chosen-form;
  closed = closed-form;
}
