use Rattle.beep_journal.proofs.ShownLemmas.{one-shown}
use Rattle.beep_journal.proofs.laws.a_log_shows_one_session.Goals as goal

pub returns : goal.returns
returns c = one-shown
