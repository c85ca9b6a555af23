use Rattle.beep_history.proofs.MomentsLemmas.{answered-moment}
use Rattle.beep_history.proofs.laws.a_request_is_answered_where_a_frame_ended_its_reply.Goals as goal

pub returns : goal.returns
returns c = answered-moment
