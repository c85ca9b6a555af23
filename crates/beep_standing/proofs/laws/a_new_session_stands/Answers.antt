use Rattle.beep_standing.proofs.NewLemmas.{new-session}
use Rattle.beep_standing.proofs.laws.a_new_session_stands.Goals as goal

pub returns : goal.returns
returns c = new-session
