use Rattle.beep_history.proofs.MomentsLemmas.{waiting-moment}
use Rattle.beep_history.proofs.laws.a_request_waits_where_it_was_asked_and_not_answered.Goals as goal

pub returns : goal.returns
returns c = waiting-moment
