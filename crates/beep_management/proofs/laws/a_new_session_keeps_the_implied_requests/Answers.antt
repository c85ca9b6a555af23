use Rattle.beep_management.proofs.ItemLemmas.{new-managed}
use Rattle.beep_management.proofs.laws.a_new_session_keeps_the_implied_requests.Goals as goal

pub returns : goal.returns
returns c = new-managed
