use Rattle.beep_two_journals.proofs.FormLemmas.{form-arrives}
use Rattle.beep_two_journals.proofs.laws.a_reply_has_its_form_where_it_arrives.Goals as goal

pub returns : goal.returns
returns c = form-arrives
