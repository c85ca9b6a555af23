use Rattle.beep_lawful.proofs.DueLemmas.{due-lawful}
use Rattle.beep_lawful.proofs.laws.what_is_due_is_lawful.Goals as goal

pub returns : goal.returns
returns c = due-lawful
