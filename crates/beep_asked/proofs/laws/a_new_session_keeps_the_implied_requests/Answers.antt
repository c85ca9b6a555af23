use Rattle.beep_asked.proofs.LawsLemmas.{new-session}
use Rattle.beep_asked.proofs.laws.a_new_session_keeps_the_implied_requests.Goals as goal

pub returns : goal.returns
returns c = new-session
