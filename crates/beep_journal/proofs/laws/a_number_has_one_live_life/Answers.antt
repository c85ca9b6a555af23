use Rattle.beep_journal.proofs.LivesLemmas.{one-live}
use Rattle.beep_journal.proofs.laws.a_number_has_one_live_life.Goals as goal

pub returns : goal.returns
returns c = one-live
