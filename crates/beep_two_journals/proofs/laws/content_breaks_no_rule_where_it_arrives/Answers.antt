use Rattle.beep_two_journals.proofs.FormLemmas.{content_arrives}
use Rattle.beep_two_journals.proofs.laws.content_breaks_no_rule_where_it_arrives.Goals as goal

pub returns : goal.returns
returns c = content_arrives
