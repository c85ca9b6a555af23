use Rattle.beep_history.proofs.MomentsLemmas.{asked-moment}
use Rattle.beep_history.proofs.laws.a_request_is_asked_where_it_began.Goals as goal

pub returns : goal.returns
returns c = asked-moment
